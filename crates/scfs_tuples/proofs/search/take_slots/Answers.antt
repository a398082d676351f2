use Rattle.std.proofs.Common.{◌≡◌, ◌∷◌, ◌∙◌, ap, sym, rules}
use Rattle.scfs_tuples.specs.Search.{standing, without_all}
use Rattle.scfs_tuples.proofs.SearchLemmas.{one_taken}
use Rattle.scfs_tuples.proofs.search.take_slots.Goals as goal

pub each-preserved : goal.each-preserved
each-preserved c =
    let front : c.each.rest.now ≡ c.in-Some.slot.now ∷ c.in-Some.others.now = search rules in
    λ es. c.each.invariant es ∙ ap (λ l. without_all l (standing c.each.gone es)) front
    ∙ ap (without_all c.in-Some.others.now) (sym (one_taken c.each.gone c.insert.new.self c.in-Some.slot.now c.in_ok-insert.ensures.updates.0 es))
