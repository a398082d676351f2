use Rattle.std.proofs.Common.{map, ◌++◌, ◌∷◌, [], append_assoc, ap, ◌∙◌, sym, List, ℕ, Bor}
use Rattle.std.proofs.lemmas.List.{map-append}
use Rattle.scfs_base.specs.Pieces.{pieces}
use Rattle.scfs_schedule.proofs.grammar.words.Goals as goal

pub loop-word-preserved : goal.loop-word-preserved
loop-word-preserved c =
    let now = λ (w : Bor (List ℕ)). w.now in
    let rest = pieces 32 c.in-Some.tail.now in
    ap (λ ws. map now ws ++ rest) c.in_ok-push.ensures.items
    ∙ ap (λ m. m ++ rest) (map-append now c.loop-word.words.items (c.in-Some.word ∷ []))
    ∙ append_assoc (map now c.loop-word.words.items) (c.in-Some.word.now ∷ []) rest
    ∙ ap (λ p. map now c.loop-word.words.items ++ p) (sym c.in-Some.ensures.alone)
    ∙ c.loop-word.invariant
