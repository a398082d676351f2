use Rattle.std.proofs.Common.{◌≡◌, ◌+◌, ◌<◌, ◌++◌, List, ℕ, length, take, get_or, sym, ap, ◌∙◌, subst, arith}
use Rattle.std.specs.Option.{option_to_list}
use Rattle.scfs_quorum_read.specs.Reading.{first_unasked, asking}
use Rattle.scfs_quorum_read.specs.Tracking.{Tracker}
use Rattle.scfs_quorum_read.proofs.OrderLemmas.{first_unasked-take, first_unasked-all, asked_more, asked_all, get_or-default}
use Rattle.scfs_quorum_read.specs.declared.steps.ReadStep.TheVariants.{Ask}
use Rattle.scfs_quorum_read.proofs.tracker.ReadTracker.ask_next.Goals as goal

pub returns-then-self-len-clause-step : goal.returns-then-self-len-clause-step
returns-then-self-len-clause-step c =
    let inside = c.self.inside in
    let all : inside.asked ≡ length inside.order.items = omega arith in
    sym (ap asking (first_unasked-all inside.order.items inside.asked all))
    ∙ ap (λ (t : Tracker). asking (first_unasked t.reading.order t.asked)) c.self.view_is

pub returns-then-self-len-clause-after : goal.returns-then-self-len-clause-after
returns-then-self-len-clause-after c =
    let inside = c.self.inside in
    let all : inside.asked ≡ length inside.order.items = omega arith in
    let same =
    subst (λ (t : Tracker). t.asked ≡ t.asked ++ option_to_list (first_unasked t.reading.order t.asked)) c.self.view_is
    (asked_all inside.order.items inside.asked all) in
    ap (λ (asked : List ℕ). record c.args.self.now { asked = asked }) same

pub returns-clause-step : goal.returns-clause-step
returns-clause-step c =
    let inside = c.self.inside in
    let within : inside.asked < length inside.order.items = omega (arith, c.self.invariant.asked) in
    let cloud = c.index-cloud.result.now in
    let given : cloud ≡ get_or inside.order.items inside.asked 0 =
    c.index-cloud.ensures ∙ sym (get_or-default inside.order.items inside.asked cloud within) in
    ap Ask given
    ∙ sym (ap asking (first_unasked-take inside.order.items inside.asked c.self.invariant.order.different within))
    ∙ ap (λ (t : Tracker). asking (first_unasked t.reading.order t.asked)) c.self.view_is

pub returns-clause-after : goal.returns-clause-after
returns-clause-after c =
    let inside = c.self.inside in
    let within : inside.asked < length inside.order.items = omega (arith, c.self.invariant.asked) in
    let with_asked : List ℕ → Tracker = λ asked. record {
      reading = record { f = inside.f; root = inside.root; size = inside.length; order = inside.order.items; turns = inside.turns };
      asked = asked;
      pieces = inside.pieces.items;
      left = inside.left;
    } in
    subst (λ (t : Tracker). with_asked (take (inside.asked + 1) inside.order.items)
    ≡ record t { asked = t.asked ++ option_to_list (first_unasked t.reading.order t.asked) }) c.self.view_is
    (ap with_asked (asked_more inside.order.items inside.asked c.self.invariant.order.different within))
