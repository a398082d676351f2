use Rattle.std.proofs.Common.{◌≡◌, ◌+◌, ◌∙◌, ap, arith, length, refl, take}
use Rattle.std.specs.Prelude.{not}
use Rattle.std.proofs.lemmas.List.{take_all}
use Rattle.std.proofs.lemmas.List.Filters.{length-filter_both}
use Rattle.scfs_tuples.specs.Matching.{is_match, matches, without_matches}
use Rattle.scfs_tuples.proofs.picking.others_of.Goals as goal

pub returns-clause-count : goal.returns-clause-count
returns-clause-count c =
    let wants = c.args.wants.now in
    let bound = c.args.bound.now in
    let tuples = c.args.tuples.now in
    let whole : take c.loop-tuple.tuple-index tuples ≡ tuples = take_all c.loop-tuple.tuple-index tuples (omega arith) in
    let left : c.loop-tuple.left ≡ without_matches wants tuples bound = c.loop-tuple.invariant ∙ ap (λ ts. without_matches wants ts bound) whole in
    ap (λ ts. length (matches wants tuples bound) + length ts) left
    ∙ length-filter_both (is_match wants bound) (λ t. not (is_match wants bound t)) (λ t. refl) tuples
