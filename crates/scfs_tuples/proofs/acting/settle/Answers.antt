use Rattle.std.proofs.Common.{◌∙◌, ap, sym}
use Rattle.scfs_tuples.specs.Search.{standing}
use Rattle.scfs_tuples.proofs.EndedLemmas.{none_in, untrue}
use Rattle.scfs_tuples.proofs.TrialLemmas.{none_gone, one_settled}
use Rattle.scfs_tuples.proofs.acting.settle.Goals as goal

pub each-preserved : goal.each-preserved
each-preserved c =
    ap (standing c.pop_first.new.self) c.in_ok-left.ensures
    ∙ one_settled c.each.gone c.pop_first.new.self c.in-Some.slot c.in-Some.ensures.updates.0 c.in-Some.ensures.member c.each.left ∙ c.each.invariant

pub returns : goal.returns
returns c = sym (none_gone c.each.gone (none_in c.each.gone.keys (λ h. untrue (c.in_default.ensures.variant.1 h))) c.each.left) ∙ c.each.invariant
