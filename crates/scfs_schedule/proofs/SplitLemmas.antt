use Rattle.std.proofs.Common.{◌≡◌, ℕ, ◌+◌, ◌-◌, ◌<◌, ◌≤◌, List, [], ◌∷◌, ◌++◌, length, take, drop, Bool, true, false, cond, eqb, ltb, ◌||◌, refl, ap, ◌∙◌, sym, subst, arith, append_assoc, length-append, Some, None, length-take-le}
use Rattle.std.specs.Prelude.{Result, Ok, Err, OnOk}
use Rattle.scfs_base.specs.Limits.{line_limit}
use Rattle.scfs_base.specs.Pieces.{onto, pieces}
use Rattle.scfs_schedule.specs.declared.types.Stop.{Stop}
use Rattle.scfs_schedule.specs.declared.types.Stop.TheVariants as stops
use Rattle.scfs_schedule.specs.declared.types.Which.{Which}
use Rattle.scfs_schedule.specs.declared.types.Which.TheVariants as whichs
use Rattle.scfs_schedule.specs.declared.progress.FirstLine.TheVariants as firsts
use Rattle.scfs_schedule.specs.Holding.{Holding, StandsFirst, with_piece}
use Rattle.scfs_schedule.specs.Reading.{is_too_long}
use Rattle.scfs_schedule.specs.Splitting.{Splitting, no_lines, with_line, split_lines, unless_passed, lines_of, GivesLine}
use Rattle.scfs_schedule.proofs.ReadingLemmas.{not_too_long, too_long, take-both, longer-both}

head_onto : (longer : Bool) (which : Which) (b : ℕ) (line : List ℕ) (ps : List (List ℕ)) → split_lines longer which (line ∷ onto b ps) ≡ cond (is_too_long line) (no_lines (Some whichs.Line)) (with_line line (split_lines longer which (onto b ps)))
head_onto longer which b line [] = refl
head_onto longer which b line (q ∷ qs) = refl

by_test : (longer : Bool) (which : Which) (b : ℕ) (line : List ℕ) (ps : List (List ℕ)) (t : Bool) → split_lines longer which (line ∷ cond t ([] ∷ ps) (onto b ps)) ≡ cond (is_too_long line) (no_lines (Some whichs.Line)) (with_line line (split_lines longer which (cond t ([] ∷ ps) (onto b ps))))
by_test longer which b line ps true = refl
by_test longer which b line ps false = head_onto longer which b line ps

first_of_more : (longer : Bool) (which : Which) (line text : List ℕ) → split_lines longer which (line ∷ pieces 10 text) ≡ cond (is_too_long line) (no_lines (Some whichs.Line)) (with_line line (split_lines longer which (pieces 10 text)))
first_of_more longer which line [] = refl
first_of_more longer which line (b ∷ bs) = by_test longer which b line (pieces 10 bs) (eqb b 10)

long_first : (longer : Bool) (which : Which) (line : List ℕ) (others : List (List ℕ)) → line_limit < length line → split_lines longer which (line ∷ others) ≡ no_lines (Some whichs.Line)
long_first longer which line [] long = ap (λ t. cond t (no_lines (Some whichs.Line)) (no_lines (cond longer (Some which) None))) (too_long line long)
long_first longer which line (next ∷ rest) long =
    ap (λ t. cond t (no_lines (Some whichs.Line)) (with_line line (split_lines longer which (next ∷ rest)))) (too_long line long)

-- a whole line is taken off
given_at : (old new : Splitting) (line : List ℕ) (n : ℕ) → old.passed ≡ None → StandsFirst (firsts.Whole n) old.rest → line ≡ take n old.rest → new ≡ record old { number = old.number + 1; rest = drop (n + 1) old.rest } → GivesLine (Ok (Some line)) old new
given_at old new line n open' first is state =
    let cut = first.2 in
    let size : length line ≡ length (take n old.rest) = ap length is in
    let tail : length new.rest ≡ length (drop (n + 1) old.rest) = ap (λ (s : Splitting). length s.rest) state in
    let short : length line ≤ line_limit = omega (arith, size, first.1, length-take-le n old.rest (omega (arith, first.0))) in (
      open',
      ap (λ (s : Splitting). s.passed) state ∙ open',
      ap (λ (s : Splitting). s.number) state,
      short,
      omega (arith, tail, cut.size),
      λ more.
          let longer = old.longer || ltb old.room (length more) in
          let behind = drop (n + 1) old.rest ++ take old.room more in
          ap (λ p. unless_passed p (split_lines longer old.which (pieces 10 (old.rest ++ take old.room more)))) open'
          ∙ ap (split_lines longer old.which) (cut.first (take old.room more))
          ∙ ap (λ l. split_lines longer old.which (l ∷ pieces 10 behind)) (sym is)
          ∙ first_of_more longer old.which line behind
          ∙ ap (λ t. cond t (no_lines (Some whichs.Line)) (with_line line (split_lines longer old.which (pieces 10 behind)))) (not_too_long line short)
          ∙ ap (λ p. with_line line (unless_passed p (split_lines longer old.which (pieces 10 behind)))) (sym open')
          ∙ ap (λ (s : Splitting). with_line line (lines_of s more)) (sym state),
    )

pub line_given : (old mid new : Splitting) (line : List ℕ) (n : ℕ) → mid ≡ old → old.passed ≡ None → StandsFirst (firsts.Whole n) old.rest → line ≡ take n mid.rest → new ≡ record mid { number = mid.number + 1; rest = drop (n + 1) mid.rest } → GivesLine (Ok (Some line)) old new
line_given old mid new line n same open' first is state =
    given_at old new line n open' first
    (is ∙ ap (λ (m : Splitting). take n m.rest) same)
    (state ∙ ap (λ (m : Splitting). record m { number = m.number + 1; rest = drop (n + 1) m.rest }) same)

-- a line is longer than its limit
pub line_too_long : (old mid new : Splitting) (stop : Stop) → mid ≡ old → old.passed ≡ None → StandsFirst firsts.TooLong old.rest → stop ≡ stops.TooLarge whichs.Line → new ≡ record mid { passed = Some whichs.Line } → GivesLine (Err stop) old new
line_too_long old mid new stop same open' long stop_is is =
    let given : GivesLine (Err (stops.TooLarge whichs.Line)) old new = (
      is ∙ ap (λ (m : Splitting). record m { passed = Some whichs.Line }) same,
      λ more.
          let longer = old.longer || ltb old.room (length more) in
          let h = long (take old.room more) in
          ap (λ p. unless_passed p (split_lines longer old.which (pieces 10 (old.rest ++ take old.room more)))) open'
          ∙ ap (split_lines longer old.which) h.2
          ∙ long_first longer old.which h.0 h.1 h.3,
    ) in
    subst (λ s. GivesLine (Err s) old new) (sym stop_is) given

-- a piece was taken
pub piece_taken : (old new : Splitting) (piece : List ℕ) → new ≡ record old { rest = old.rest ++ take old.room piece; room = old.room - length piece; longer = old.longer || ltb old.room (length piece) } → (more : List ℕ) → lines_of old (piece ++ more) ≡ lines_of new more
piece_taken old new piece is more =
    let room = old.room - length piece in
    let longer = old.longer || ltb old.room (length piece) in
    ap (λ n. unless_passed old.passed (split_lines (old.longer || ltb old.room n) old.which (pieces 10 (old.rest ++ take old.room (piece ++ more))))) (length-append piece more)
    ∙ ap (λ b. unless_passed old.passed (split_lines b old.which (pieces 10 (old.rest ++ take old.room (piece ++ more))))) (longer-both old.longer old.room (length piece) (length more))
    ∙ ap (λ t. unless_passed old.passed (split_lines (longer || ltb room (length more)) old.which (pieces 10 (old.rest ++ t)))) (take-both old.room piece more)
    ∙ ap (λ t. unless_passed old.passed (split_lines (longer || ltb room (length more)) old.which (pieces 10 t))) (sym (append_assoc old.rest (take old.room piece) (take room more)))
    ∙ ap (λ (s : Splitting). lines_of s more) (sym is)

pub piece_held : {E : Type 0} (result : Result Unit E) (old new : Splitting) (before after : Holding) (piece : List ℕ) → old.rest ≡ before.rest → old.room ≡ before.room → old.longer ≡ before.longer → OnOk result (after ≡ with_piece before piece) → new ≡ record old { rest = after.rest; room = after.room; longer = after.longer } → OnOk result ((more : List ℕ) → lines_of old (piece ++ more) ≡ lines_of new more)
piece_held (Ok u) old new before after piece rest room longer is state =
    piece_taken old new piece (state ∙ ap (λ (h : Holding). record old { rest = h.rest; room = h.room; longer = h.longer }) (is ∙ whole)) where
      whole : with_piece before piece ≡ record { rest = old.rest ++ take old.room piece; room = old.room - length piece; longer = old.longer || ltb old.room (length piece) }
      whole = rw (rest, room, longer) refl
piece_held (Err e) old new before after piece rest room longer is state = tt
