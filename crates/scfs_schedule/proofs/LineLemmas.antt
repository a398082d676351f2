use Rattle.std.proofs.Common.{◌≡◌, ℕ, ◌+◌, ◌-◌, ◌<◌, ◌≤◌, List, [], ◌∷◌, ◌++◌, length, take, drop, Bool, true, false, cond, eqb, refl, ap, ◌∙◌, sym, subst, arith, append_assoc, append-nil, length-append, length-take-le, suc, Some}
use Rattle.std.specs.Prelude.{slice_get, not}
use Rattle.std.proofs.Math.Seq.{take-append-add, drop-append-add}
use Rattle.std.proofs.lemmas.List.{take-append-drop}
use Rattle.scfs_base.specs.Limits.{line_limit}
use Rattle.scfs_base.specs.Pieces.{onto, pieces, CutsAt}
use Rattle.scfs_schedule.specs.Holding.{HoldsNoLine, HoldsLongLine, is_unfinished}

-- bytes before the first piece
prefix : List ℕ → List (List ℕ) → List (List ℕ)
prefix xs [] = xs ∷ []
prefix xs (p ∷ ps) = (xs ++ p) ∷ ps

prefix-onto : (x : ℕ) (xs : List ℕ) (ps : List (List ℕ)) → onto x (prefix xs ps) ≡ prefix (x ∷ xs) ps
unfolding prefix
prefix-onto x xs [] = refl
prefix-onto x xs (p ∷ ps) = refl

onto-some : (x : ℕ) (ps : List (List ℕ)) → onto x ps ≡ [] → ⊥
onto-some x [] h = cc
onto-some x (p ∷ ps) h = cc

cond-some : (x : ℕ) (ps : List (List ℕ)) (t : Bool) → cond t ([] ∷ ps) (onto x ps) ≡ [] → ⊥
cond-some x ps true h = cc
cond-some x ps false h = onto-some x ps h

-- there is a piece
pub some_piece : (mark : ℕ) (xs : List ℕ) → pieces mark xs ≡ [] → ⊥
some_piece mark [] h = cc
some_piece mark (x ∷ xs) h = cond-some x (pieces mark xs) (eqb x mark) h

onto-alone : (x : ℕ) (xs : List ℕ) (ps : List (List ℕ)) → (ps ≡ [] → ⊥) → onto x ps ≡ (x ∷ xs) ∷ [] → ps ≡ xs ∷ []
onto-alone x xs [] some h = absurd (some refl)
onto-alone x xs (p ∷ ps) some h = cc

by_test : (x : ℕ) (xs : List ℕ) (ps : List (List ℕ)) (t : Bool) → (ps ≡ [] → ⊥) → cond t ([] ∷ ps) (onto x ps) ≡ (x ∷ xs) ∷ [] → (t ≡ false) × (ps ≡ xs ∷ [])
by_test x xs ps true some h = cc
by_test x xs ps false some h = (refl, onto-alone x xs ps some h)

-- bytes without a mark stand before the first piece of what follows
pieces-behind : (mark : ℕ) (xs ys : List ℕ) → pieces mark xs ≡ xs ∷ [] → pieces mark (xs ++ ys) ≡ prefix xs (pieces mark ys)
unfolding prefix
pieces-behind mark [] ys h = first (pieces mark ys) (some_piece mark ys) where
  first : (ps : List (List ℕ)) → (ps ≡ [] → ⊥) → ps ≡ prefix [] ps
  first [] some = absurd (some refl)
  first (p ∷ ps) some = refl
pieces-behind mark (x ∷ xs) ys h =
    let parts = by_test x xs (pieces mark xs) (eqb x mark) (some_piece mark xs) h in
    ap (λ t. cond t ([] ∷ pieces mark (xs ++ ys)) (onto x (pieces mark (xs ++ ys)))) parts.0
    ∙ ap (onto x) (pieces-behind mark xs ys parts.1)
    ∙ prefix-onto x xs (pieces mark ys)

pub no_line_behind : (xs ys : List ℕ) → HoldsNoLine xs → HoldsNoLine ys → HoldsNoLine (xs ++ ys)
unfolding prefix
no_line_behind xs ys hx hy = pieces-behind 10 xs ys hx ∙ ap (prefix xs) hy

-- the first line ends behind bytes without a line
pub cut_behind : (xs ys front back : List ℕ) → HoldsNoLine xs → CutsAt 10 ys front back → CutsAt 10 (xs ++ ys) (xs ++ front) back
unfolding prefix
cut_behind xs ys front back h cut = record {
  alone = pieces-behind 10 xs ys h ∙ ap (prefix xs) cut.alone;
  first = λ more. ap (pieces 10) (append_assoc xs ys more) ∙ pieces-behind 10 xs (ys ++ more) h ∙ ap (prefix xs) (cut.first more);
  begins = ap (λ t. xs ++ t) cut.begins ∙ sym (take-append-add xs ys (length front)) ∙ ap (λ n. take n (xs ++ ys)) (sym (length-append xs front));
  rest = cut.rest ∙ sym (drop-append-add xs ys (length front + 1))
      ∙ ap (λ n. drop n (xs ++ ys)) (let e : length xs + (length front + 1) ≡ length (xs ++ front) + 1 = omega (arith, length-append xs front) in e);
  size = omega (arith, length-append xs front, length-append xs ys, cut.size);
}

-- the line that was found in what lies behind the bytes known to hold no line
pub record Found (held seen front back : List ℕ) (clear found : ℕ) : Type 0 where
  pub within : clear ≤ length held
  pub no_line : HoldsNoLine (take clear held)
  pub behind : seen ≡ drop clear held
  pub cut : CutsAt 10 seen front back
  pub is : found ≡ clear + length front

whole_cut : (held seen front back : List ℕ) (clear found : ℕ) → Found held seen front back clear found → CutsAt 10 held (take clear held ++ front) back
whole_cut held seen front back clear found f =
    let at : CutsAt 10 (drop clear held) front back = subst (λ s. CutsAt 10 s front back) f.behind f.cut in
    subst (λ w. CutsAt 10 w (take clear held ++ front) back) (take-append-drop clear held)
    (cut_behind (take clear held) (drop clear held) front back f.no_line at)

whole_length : (held seen front back : List ℕ) (clear found : ℕ) → Found held seen front back clear found → length (take clear held ++ front) ≡ found
whole_length held seen front back clear found f =
    length-append (take clear held) front ∙ ap (λ n. n + length front) (length-take-le clear held f.within) ∙ sym f.is

pub line_found : (held seen front back : List ℕ) (clear found : ℕ) → Found held seen front back clear found → CutsAt 10 held (take found held) (drop (found + 1) held)
line_found held seen front back clear found f =
    let whole = whole_cut held seen front back clear found f in
    let size = whole_length held seen front back clear found f in
    let line : take clear held ++ front ≡ take found held = whole.begins ∙ ap (λ n. take n held) size in
    let tail : back ≡ drop (found + 1) held = whole.rest ∙ ap (λ n. drop (n + 1) held) size in
    subst (λ t. CutsAt 10 held (take found held) t) tail (subst (λ l. CutsAt 10 held l back) line whole)

pub line_within : (held seen front back : List ℕ) (clear found : ℕ) → Found held seen front back clear found → found < length held
line_within held seen front back clear found f =
    let whole = whole_cut held seen front back clear found f in
    omega (arith, whole.size, whole_length held seen front back clear found f)

pub none_found : (held seen : List ℕ) (clear : ℕ) → HoldsNoLine (take clear held) → seen ≡ drop clear held → HoldsNoLine seen → HoldsNoLine held
none_found held seen clear front is back =
    subst HoldsNoLine (take-append-drop clear held) (no_line_behind (take clear held) (drop clear held) front (subst HoldsNoLine is back))

-- a whole line that is too long
pub long_found : (held tail : List ℕ) (found : ℕ) → CutsAt 10 held (take found held) tail → found < length held → line_limit < found → HoldsLongLine held
long_found held tail found cut within long = λ more.
    (take found held, pieces 10 (tail ++ more), cut.first more, omega (arith, length-take-le found held (omega arith), long))

-- too much for one line
pub long_held : (held : List ℕ) → HoldsNoLine held → line_limit < length held → HoldsLongLine held
unfolding prefix
long_held held none long = λ more. first (pieces 10 more) (some_piece 10 more) more (pieces-behind 10 held more none) where
  first : (ps : List (List ℕ)) → (ps ≡ [] → ⊥) → (more : List ℕ) → pieces 10 (held ++ more) ≡ prefix held ps → (front : List ℕ) × (others : List (List ℕ)) × (pieces 10 (held ++ more) ≡ front ∷ others) × (line_limit < length front)
  first [] some more is = absurd (some refl)
  first (p ∷ ps) some more is = (held ++ p, ps, is, omega (arith, length-append held p, long))

-- a word without a space stands before the space
pub mark_behind : (w rest : List ℕ) → pieces 32 w ≡ w ∷ [] → pieces 32 (w ++ 32 ∷ rest) ≡ w ∷ pieces 32 rest
unfolding prefix
mark_behind w rest h = pieces-behind 32 w (32 ∷ rest) h ∙ ap (λ t. t ∷ pieces 32 rest) (append-nil w)

-- bytes end within a line where the last of them is no line's end
pub last_byte : (bytes : List ℕ) (b : ℕ) → slice_get bytes (length bytes - 1) ≡ Some b → not (eqb b 10) ≡ is_unfinished bytes
last_byte [] b h = cc
last_byte (x ∷ []) b h = ap (λ c. not (eqb c 10)) (let e : b ≡ x = cc in e)
last_byte (x ∷ y ∷ xs) b h =
    let at : length (x ∷ y ∷ xs) - 1 ≡ suc (length (y ∷ xs) - 1) = omega arith in
    last_byte (y ∷ xs) b (ap (slice_get (x ∷ y ∷ xs)) (sym at) ∙ h)

-- a line without its end stands before that end
pub line_behind : (line rest : List ℕ) → pieces 10 line ≡ line ∷ [] → pieces 10 (line ++ 10 ∷ rest) ≡ line ∷ pieces 10 rest
unfolding prefix
line_behind line rest h = pieces-behind 10 line (10 ∷ rest) h ∙ ap (λ t. t ∷ pieces 10 rest) (append-nil line)
