use Rattle.std.proofs.Common.{get_or, ap, arith, below_more}
use Rattle.std.specs.Prelude.{bit_xor}
use Rattle.std.proofs.lemmas.Bool.{eqb-true, eq-eqb}
use Rattle.std.proofs.lemmas.Grind.{same_number_lists}
use Rattle.scfs_digest.proofs.TagLemmas.{or_is_zero-left, or_is_zero-right, xor_is_zero, nothing_differs}
use Rattle.scfs_digest.proofs.tags.same_bytes.Goals as goal

pub loop-i-preserved : goal.loop-i-preserved
loop-i-preserved c =
    let d = c.loop-i.different in
    let a = get_or c.args.ours.now c.loop-i.i 0 in
    let b = get_or c.args.theirs.now c.loop-i.i 0 in (
      λ none. below_more _ _ (c.loop-i.invariant.0 (or_is_zero-left d (bit_xor a b) none))
          (xor_is_zero a b (or_is_zero-right d (bit_xor a b) none)),
      λ same. nothing_differs d a b (c.loop-i.invariant.1 (λ k below. same k (omega arith)))
          (same c.loop-i.i (omega arith)),
    )

pub returns : goal.returns
returns c = (
  λ none. same_number_lists c.args.ours.now c.args.theirs.now (omega arith)
      (λ k below. c.loop-i.invariant.0 (eqb-true c.loop-i.different 0 none) k (omega arith)),
  λ same. eq-eqb c.loop-i.different 0 (c.loop-i.invariant.1 (λ k below. ap (λ xs. get_or xs k 0) same)),
)
