use Rattle.std.proofs.Common.{◌≡◌, ◌<◌, ◌+◌, ◌*◌, ℕ, List, Some, take, sym, ap, ◌∙◌, subst, arith}
use Rattle.std.proofs.lemmas.Grind.{common_steps}
use Rattle.std.proofs.lemmas.List.Elements.{All-same, All-take}
use Rattle.scfs_quorum_read.specs.Tracking.{IsOrder}
use Rattle.scfs_quorum_read.specs.Tracking.{Tracker, begun}
use Rattle.scfs_agent.specs.State.{AgentState}
use Rattle.scfs_agent.proofs.ReadingLemmas.{first_asking}
use Rattle.scfs_agent.proofs.agent.Agent.fetch.Goals as goal

pub new-requires-clause-order : goal.new-requires-clause-order
new-requires-clause-order c =
    let f : c.self.inside.header.f ≡ c.args.self.now.header.f = ap (λ (a : AgentState). a.header.f) c.self.view_is in
    subst (IsOrder c.self.inside.header.f) (sym c.as_slice.ensures)
    (c.in_ok-order.ensures.is c.self.inside.header.f (omega (arith, c.requires.ranks, f)))

pub ask_gets-requires-clause-clouds : goal.ask_gets-requires-clause-clouds
ask_gets-requires-clause-clouds c =
    let first : c.as_slice-3.result.now ≡ take (c.self.inside.header.f + 1) c.in_ok-order.order = grind (arith, common_steps) in
    let order : IsOrder c.args.self.now.header.f c.in_ok-order.order = c.in_ok-order.ensures.is c.args.self.now.header.f c.requires.ranks in
    All-same (λ (d : ℕ). d < 3 * c.args.self.now.header.f + 1) c.as_slice-3.result.now _ first
    (All-take (λ (d : ℕ). d < 3 * c.args.self.now.header.f + 1) (c.self.inside.header.f + 1) c.in_ok-order.order order.below)

pub ask_gets-requires-clause-fetch : goal.ask_gets-requires-clause-fetch
ask_gets-requires-clause-fetch c =
    let f = c.args.self.now.header.f in
    let same : c.self.inside.header.f ≡ f = ap (λ (a : AgentState). a.header.f) c.self.view_is in
    let first : c.as_slice-3.result.now ≡ take (c.self.inside.header.f + 1) c.in_ok-order.order = grind (arith, common_steps) in
    let begins : ℕ → List ℕ → Tracker =
    λ n order. begun (record { f = n; root = c.args.row.now.root; size = c.args.row.now.length; order = order; turns = Some 8 }) in
    first_asking f _ c.in_ok-order.order c.as_slice-3.result.now c.requires.row c.new-2.ensures (c.in_ok-order.ensures.is f c.requires.ranks)
    (c.in_ok-tracker.ensures.begins ∙ ap (λ (n : ℕ). begins n c.as_slice.result.now) same ∙ ap (begins f) c.as_slice.ensures)
    (first ∙ ap (λ (n : ℕ). take (n + 1) c.in_ok-order.order) same)
