use Rattle.std.proofs.Common.{◌≡◌, ◌<◌, ◌≤◌, ◌+◌, ◌*◌, ℕ, Bool, length, sym, ap, ◌∙◌, arith}
use Rattle.std.specs.Prelude.{filter, not}
use Rattle.std.specs.FinSet as set
use Rattle.std.proofs.lemmas.Grind.{common_steps}
use Rattle.std.proofs.lemmas.List.Elements.{All-same, All-filter}
use Rattle.scfs_quorum_write.specs.Acks.{clouds_of}
use Rattle.scfs_model.specs.Lists.{below, is_in}
use Rattle.scfs_agent.specs.Views.{acked_of}
use Rattle.scfs_agent.proofs.AckLemmas.{missing_of}
use Rattle.scfs_agent.proofs.CloudLists.{all_below, filter_short, kept_more, left_more, length-below}
use Rattle.scfs_agent.proofs.agent.Agent.missing.Goals as goal
use Rattle.scfs_agent.proofs.agent.Agent.missing.Goals.{then-missing+in_ok-push, else-missing}

pub loop-cloud-preserved : goal.loop-cloud-preserved
loop-cloud-preserved c =
    let test : ℕ → Bool = λ (d : ℕ). not (set.contains (clouds_of c.args.acks.now 0) d) in
    elim c.if-missing.branch [
      | then-missing+in_ok-push w ↦
          kept_more test c.loop-cloud.cloud c.loop-cloud.clouds c.if-missing.clouds c.loop-cloud.invariant (sym c.missing.ensures ∙ w.if-missing.true)
          (w.clouds-is ∙ w.in_ok-push.ensures.ok)
      | else-missing w ↦
          left_more test c.loop-cloud.cloud c.loop-cloud.clouds c.if-missing.clouds c.loop-cloud.invariant (sym c.missing.ensures
          ∙ w.if-missing.false)
          w.clouds-is
    ]

pub returns : goal.returns
returns c =
    let f = c.args.self.now.header.f in
    let test : ℕ → Bool = λ (d : ℕ). not (is_in d (acked_of c.args.acks.now)) in
    let end : c.loop-cloud.cloud ≡ 3 * c.args.acks.now.f + 1 = grind (arith, common_steps) in
    let high : f ≤ 3 = grind (arith, common_steps) in
    let clouds : c.loop-cloud.clouds ≡ filter test (below (3 * f + 1)) =
    c.loop-cloud.invariant ∙ ap (λ (n : ℕ). filter (λ d. not (set.contains (clouds_of c.args.acks.now 0) d)) (below n)) end
    ∙ missing_of c.args.acks.now ∙ ap (λ (n : ℕ). filter test (below (3 * n + 1))) c.requires.f in
    record {
      clouds = clouds;
      few = omega (arith, ap length clouds, filter_short test (below (3 * f + 1)), length-below (3 * f + 1), high);
      within = All-same (λ d. d < 3 * f + 1) c.loop-cloud.clouds _ clouds
          (All-filter test (λ d. d < 3 * f + 1) (below (3 * f + 1)) (all_below (3 * f + 1)));
    }
