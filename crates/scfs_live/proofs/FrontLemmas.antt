-- A front of a text that keeps the limits keeps them as well.
use Rattle.std.proofs.Common.{◌≡◌, ◌≤◌, ℕ, ◌+◌, List, [], ◌∷◌, ◌++◌, refl, ap, ◌∙◌, sym, subst, Bool, true, false, cond, eqb, ltb, Option, Some, None, length, length-append, take, arith}
use Rattle.std.proofs.lemmas.Bool.{le-ltb, ltb-false}
use Rattle.std.proofs.lemmas.List.{take_all}
use Rattle.scfs_base.specs.Limits.{line_limit}
use Rattle.scfs_base.specs.Pieces.{onto, pieces}
use Rattle.scfs_schedule.specs.declared.types.Which.{Which}
use Rattle.scfs_schedule.specs.declared.types.Which.TheVariants as whichs
use Rattle.scfs_schedule.specs.Reading.{is_too_long}
use Rattle.scfs_schedule.specs.Splitting.{Split, no_lines, split, split_lines, with_line}
use Rattle.scfs_live.specs.Keeping.{all_but_last}
use Rattle.scfs_live.proofs.SplitLemmas.{split_whole, within_limit}

-- none of these is longer than a line may be
abbrev pub AreShort : List (List ℕ) → Type 0
AreShort [] = Unit {0}
AreShort (p ∷ ps) = (is_too_long p ≡ false) × AreShort ps

last_short : (t : Bool) (passed : Option Which) → (cond t (no_lines (Some whichs.Line)) (no_lines passed)).passed ≡ None → t ≡ false
last_short true passed none = cc
last_short false passed none = refl

then_short : (line : List ℕ) (rest : Split) (t : Bool) → (cond t (no_lines (Some whichs.Line)) (with_line line rest)).passed ≡ None
    → (t ≡ false) × (rest.passed ≡ None)
then_short line rest true none = cc
then_short line rest false none = (refl, none)

are_short : (longer : Bool) (which : Which) (ps : List (List ℕ)) → (split_lines longer which ps).passed ≡ None → AreShort ps
are_short longer which [] none = tt
are_short longer which (last ∷ []) none = (last_short (is_too_long last) (cond longer (Some which) None) none, tt)
are_short longer which (line ∷ next ∷ rest) none =
    let both = then_short line (split_lines longer which (next ∷ rest)) (is_too_long line) none in
    (both.0, are_short longer which (next ∷ rest) both.1)

passes_none : (which : Which) (ps : List (List ℕ)) → AreShort ps → (split_lines false which ps).passed ≡ None
passes_none which [] short = refl
passes_none which (last ∷ []) short = ap (λ t. (cond t (no_lines (Some whichs.Line)) (no_lines None)).passed) short.0
passes_none which (line ∷ next ∷ rest) short =
    ap (λ t. (cond t (no_lines (Some whichs.Line)) (with_line line (split_lines false which (next ∷ rest)))).passed) short.0
    ∙ passes_none which (next ∷ rest) short.1

-- pieces beside others that are as many or more, and as long or longer
abbrev Below : (ps qs : List (List ℕ)) → Type 0
Below [] qs = Unit {0}
Below (p ∷ ps) [] = ⊥
Below (p ∷ ps) (q ∷ qs) = (length p ≤ length q) × Below ps qs

below_onto : (b : ℕ) (ps qs : List (List ℕ)) → Below ps qs → Below (onto b ps) (onto b qs)
below_onto b [] [] below = (omega arith, tt)
below_onto b [] (q ∷ qs) below = (omega arith, tt)
below_onto b (p ∷ ps) [] below = absurd below
below_onto b (p ∷ ps) (q ∷ qs) below = (omega (arith, below.0), below.1)

below_test : (b : ℕ) (ps qs : List (List ℕ)) (t : Bool) → Below ps qs → Below (cond t ([] ∷ ps) (onto b ps)) (cond t ([] ∷ qs) (onto b qs))
below_test b ps qs true below = (omega arith, below)
below_test b ps qs false below = below_onto b ps qs below

below_none : (b : ℕ) (qs : List (List ℕ)) (t : Bool) → Below ([] ∷ []) (cond t ([] ∷ qs) (onto b qs))
below_none b qs true = (omega arith, tt)
below_none b [] false = (omega arith, tt)
below_none b (q ∷ qs) false = (omega arith, tt)

below_first : (y : List ℕ) → Below ([] ∷ []) (pieces 10 y)
below_first [] = (omega arith, tt)
below_first (b ∷ y) = below_none b (pieces 10 y) (eqb b 10)

below_pieces : (x y : List ℕ) → Below (pieces 10 x) (pieces 10 (x ++ y))
below_pieces [] y = below_first y
below_pieces (b ∷ x) y = below_test b (pieces 10 x) (pieces 10 (x ++ y)) (eqb b 10) (below_pieces x y)

shorter : (m n : ℕ) → m ≤ n → ltb line_limit n ≡ false → ltb line_limit m ≡ false
shorter m n less within = le-ltb line_limit m (omega (arith, less, ltb-false line_limit n within))

short_below : (ps qs : List (List ℕ)) → Below ps qs → AreShort qs → AreShort ps
short_below [] qs below short = tt
short_below (p ∷ ps) [] below short = absurd below
short_below (p ∷ ps) (q ∷ qs) below short = (shorter (length p) (length q) below.0 short.0, short_below ps qs below.1 short.1)

pub front_passes : (limit : ℕ) (which : Which) (front back : List ℕ) → (split limit which (front ++ back)).passed ≡ None → (split limit which front).passed ≡ None
front_passes limit which front back none =
    let text = front ++ back in
    let within = within_limit limit which text none in
    let few : length front ≤ limit = omega (arith, within, length-append front back) in
    let all : pieces 10 (take limit text) ≡ pieces 10 text = ap (pieces 10) (take_all limit text within) in
    let same : (split_lines (ltb limit (length text)) which (pieces 10 text)).passed ≡ None =
    ap (λ ps. (split_lines (ltb limit (length text)) which ps).passed) (sym all) ∙ none in
    let short = are_short (ltb limit (length text)) which (pieces 10 text) same in
    ap (λ t. (split_lines t which (pieces 10 (take limit front))).passed) (le-ltb limit (length front) few)
    ∙ ap (λ t. (split_lines false which (pieces 10 t)).passed) (take_all limit front few)
    ∙ passes_none which (pieces 10 front) (short_below (pieces 10 front) (pieces 10 text) (below_pieces front back) short)

-- no whole line of a text that passes no limit is longer than a line may be
all_short : (ps : List (List ℕ)) → AreShort ps → AreShort (all_but_last ps)
all_short [] short = tt
all_short (last ∷ []) short = tt
all_short (line ∷ next ∷ rest) short = (short.0, all_short (next ∷ rest) short.1)

pub are_short_whole : (limit : ℕ) (which : Which) (text : List ℕ) → (split limit which text).passed ≡ None → AreShort (split limit which text).lines
are_short_whole limit which text none =
    let within = within_limit limit which text none in
    let pieces_short = are_short (ltb limit (length text)) which (pieces 10 (take limit text)) none in
    let whole : all_but_last (pieces 10 (take limit text)) ≡ (split limit which text).lines =
    ap (λ t. all_but_last (pieces 10 t)) (take_all limit text within) ∙ sym (split_whole limit which text none) in
    subst AreShort whole (all_short (pieces 10 (take limit text)) pieces_short)
