-- The whole lines of a text that is taken piece by piece.
use Rattle.std.proofs.Common.{◌≡◌, ◌≢◌, ◌≤◌, ◌⊎◌, ℕ, List, [], ◌∷◌, ◌++◌, refl, ap, ◌∙◌, sym, Bool, true, false, cond, eqb, ltb, Option, Some, None, length, append_assoc, append-nil, inl, inr, take, arith}
use Rattle.std.proofs.lemmas.Bool.{ltb-false}
use Rattle.std.proofs.lemmas.List.{take_all}
use Rattle.scfs_base.specs.Pieces.{onto, pieces}
use Rattle.scfs_schedule.specs.declared.types.Which.{Which}
use Rattle.scfs_schedule.specs.declared.types.Which.TheVariants as whichs
use Rattle.scfs_schedule.specs.Holding.{is_unfinished}
use Rattle.scfs_schedule.specs.Reading.{is_too_long}
use Rattle.scfs_schedule.specs.Splitting.{Split, Splitting, lines_of, no_lines, split, split_lines, unsplit, with_line}
use Rattle.scfs_live.specs.Keeping.{all_but_last, whole_lines}
use Rattle.scfs_live.specs.Taking.{Fed, with_lines}

-- of a text these bytes were taken and these lines given, the others are still to come
abbrev pub Gave : ℕ → Which → (taken : List ℕ) → (done : List (List ℕ)) → Splitting → Type 0
Gave limit which taken done s = (later : List ℕ) → split limit which (taken ++ later) ≡ with_lines done (lines_of s later)

pub gave_nothing : (limit : ℕ) (which : Which) → Gave limit which [] [] (unsplit limit which)
gave_nothing limit which later = refl

pub gave_fed : (limit : ℕ) (which : Which) (taken piece : List ℕ) (done : List (List ℕ)) (old new : Splitting) → Gave limit which taken done old → Fed old piece new
    → Gave limit which (taken ++ piece) done new
gave_fed limit which taken piece done old new gave fed later =
    ap (split limit which) (append_assoc taken piece later) ∙ gave (piece ++ later) ∙ ap (with_lines done) (fed.same later)

pub gave_line : (limit : ℕ) (which : Which) (taken : List ℕ) (done : List (List ℕ)) (line : List ℕ) (old new : Splitting) → Gave limit which taken done old
    → ((more : List ℕ) → lines_of old more ≡ with_line line (lines_of new more)) → Gave limit which taken (done ++ line ∷ []) new
gave_line limit which taken done line old new gave next later =
    let rest = lines_of new later in
    gave later ∙ ap (with_lines done) (next later) ∙ ap (λ ls. record rest { lines = ls }) (sym (append_assoc done (line ∷ []) rest.lines))

-- nothing is still to come of the bytes taken
pub gave_all : (limit : ℕ) (which : Which) (taken : List ℕ) (done : List (List ℕ)) (s : Splitting) (passed : Option Which) → Gave limit which taken done s
    → lines_of s [] ≡ no_lines passed → split limit which taken ≡ record { lines = done; passed = passed }
gave_all limit which taken done s passed gave none =
    ap (split limit which) (sym (append-nil taken)) ∙ gave [] ∙ ap (with_lines done) none ∙ ap (λ ls. record { lines = ls; passed = passed }) (append-nil done)

-- with the last of the lines given, others are there
pub gave_more : (limit : ℕ) (which : Which) (taken : List ℕ) (done : List (List ℕ)) (line : List ℕ) (s : Splitting) → Gave limit which taken (done ++ line ∷ []) s
    → (split limit which taken).lines ≡ done ++ line ∷ (lines_of s []).lines
gave_more limit which taken done line s gave =
    ap (λ t. (split limit which t).lines) (sym (append-nil taken)) ∙ ap (λ (x : Split). x.lines) (gave [])
    ∙ append_assoc done (line ∷ []) (lines_of s []).lines

-- a text that passes no limit is within it

onto_some : (b : ℕ) (ps : List (List ℕ)) → (line : List ℕ) × (rest : List (List ℕ)) × (onto b ps ≡ line ∷ rest)
onto_some b [] = (b ∷ [], [], refl)
onto_some b (p ∷ ps) = (b ∷ p, ps, refl)

test_some : (b : ℕ) (ps : List (List ℕ)) (t : Bool) → (line : List ℕ) × (rest : List (List ℕ)) × (cond t ([] ∷ ps) (onto b ps) ≡ line ∷ rest)
test_some b ps true = ([], ps, refl)
test_some b ps false = onto_some b ps

pieces_some : (text : List ℕ) → (line : List ℕ) × (rest : List (List ℕ)) × (pieces 10 text ≡ line ∷ rest)
pieces_some [] = ([], [], refl)
pieces_some (b ∷ bs) = test_some b (pieces 10 bs) (eqb b 10)

passes_last : (which : Which) (t : Bool) → (cond t (no_lines (Some whichs.Line)) (no_lines (Some which))).passed ≢ None
passes_last which true = λ is. cc
passes_last which false = λ is. cc

passes_then : (line : List ℕ) (rest : Split) (t : Bool) → rest.passed ≢ None → (cond t (no_lines (Some whichs.Line)) (with_line line rest)).passed ≢ None
passes_then line rest true later = λ is. cc
passes_then line rest false later = later

passes : (which : Which) (line : List ℕ) (rest : List (List ℕ)) → (split_lines true which (line ∷ rest)).passed ≢ None
passes which line [] = passes_last which (is_too_long line)
passes which line (next ∷ rest) = passes_then line (split_lines true which (next ∷ rest)) (is_too_long line) (passes which next rest)

within : (limit : ℕ) (which : Which) (text : List ℕ) (t : Bool) → ltb limit (length text) ≡ t → (split_lines t which (pieces 10 (take limit text))).passed ≡ None → length text ≤ limit
within limit which text true is none =
    let some = pieces_some (take limit text) in
    absurd (passes which some.0 some.1 (ap (λ ps. (split_lines true which ps).passed) (sym some.2) ∙ none))
within limit which text false is none = ltb-false limit (length text) is

pub within_limit : (limit : ℕ) (which : Which) (text : List ℕ) → (split limit which text).passed ≡ None → length text ≤ limit
within_limit limit which text none = within limit which text (ltb limit (length text)) refl none

-- the limit that a text passes is that of a line or that of the whole

abbrev IsLimit : Which → Which → Type 0
IsLimit which w = (w ≡ whichs.Line) ⊎ (w ≡ which)

limit_last : (which w : Which) (t longer : Bool) → (cond t (no_lines (Some whichs.Line)) (no_lines (cond longer (Some which) None))).passed ≡ Some w → IsLimit which w
limit_last which w true longer is = inl cc
limit_last which w false true is = inr cc
limit_last which w false false is = cc

limit_then : (which w : Which) (line : List ℕ) (rest : Split) (t : Bool) → (rest.passed ≡ Some w → IsLimit which w)
    → (cond t (no_lines (Some whichs.Line)) (with_line line rest)).passed ≡ Some w → IsLimit which w
limit_then which w line rest true later is = inl cc
limit_then which w line rest false later is = later is

limit_passed : (longer : Bool) (which w : Which) (ps : List (List ℕ)) → (split_lines longer which ps).passed ≡ Some w → IsLimit which w
limit_passed longer which w [] is = cc
limit_passed longer which w (line ∷ []) is = limit_last which w (is_too_long line) longer is
limit_passed longer which w (line ∷ next ∷ rest) is =
    limit_then which w line (split_lines longer which (next ∷ rest)) (is_too_long line) (limit_passed longer which w (next ∷ rest)) is

pub passed_limit : (limit : ℕ) (which w : Which) (text : List ℕ) → (split limit which text).passed ≡ Some w → (w ≡ whichs.Line) ⊎ (w ≡ which)
passed_limit limit which w text is = limit_passed (ltb limit (length text)) which w (pieces 10 (take limit text)) is

-- a text that ends with some bytes ends within a line where they do
pub is_unfinished-append : (early piece : List ℕ) → 1 ≤ length piece → is_unfinished (early ++ piece) ≡ is_unfinished piece
is_unfinished-append [] piece some = refl
is_unfinished-append (b ∷ []) [] some = absurd (omega (arith, some))
is_unfinished-append (b ∷ []) (x ∷ xs) some = refl
is_unfinished-append (b ∷ c ∷ rest) piece some = is_unfinished-append (c ∷ rest) piece some

-- the lines of a text that passes no limit are its whole lines

whole_last : (t : Bool) (passed : Option Which) → (cond t (no_lines (Some whichs.Line)) (no_lines passed)).lines ≡ []
whole_last true passed = refl
whole_last false passed = refl

whole_then : (line : List ℕ) (lines : List (List ℕ)) (rest : Split) (t : Bool) → (rest.passed ≡ None → rest.lines ≡ lines)
    → (cond t (no_lines (Some whichs.Line)) (with_line line rest)).passed ≡ None
    → (cond t (no_lines (Some whichs.Line)) (with_line line rest)).lines ≡ line ∷ lines
whole_then line lines rest true further none = cc
whole_then line lines rest false further none = ap (λ ls. line ∷ ls) (further none)

whole_split : (longer : Bool) (which : Which) (ps : List (List ℕ)) → (split_lines longer which ps).passed ≡ None → (split_lines longer which ps).lines ≡ all_but_last ps
whole_split longer which [] none = refl
whole_split longer which (last ∷ []) none = whole_last (is_too_long last) (cond longer (Some which) None)
whole_split longer which (line ∷ next ∷ rest) none =
    whole_then line (all_but_last (next ∷ rest)) (split_lines longer which (next ∷ rest)) (is_too_long line) (whole_split longer which (next ∷ rest)) none

pub split_whole : (limit : ℕ) (which : Which) (text : List ℕ) → (split limit which text).passed ≡ None → (split limit which text).lines ≡ whole_lines text
split_whole limit which text none =
    whole_split (ltb limit (length text)) which (pieces 10 (take limit text)) none ∙ ap whole_lines (take_all limit text (within_limit limit which text none))
