-- What a line of a journal that was left is found to be.
use Rattle.std.proofs.Common.{◌≡◌, ℕ, List, [], ◌∷◌, refl, ap, ◌∙◌, subst, Bool, true, false, ◌&&◌, cond, eqb, eq-eqb, Option, None, Some, Result, Ok, Err}
use Rattle.std.proofs.lemmas.Bool.{eqb-true}
use Rattle.std.specs.Str.{bytes_eq}
use Rattle.scfs_schedule.specs.declared.types.BadKind.{BadKind}
use Rattle.scfs_schedule.specs.declared.types.BadKind.TheVariants as kinds
use Rattle.scfs_schedule.specs.declared.types.Event.{Event}
use Rattle.scfs_schedule.specs.declared.types.Header.{Header}
use Rattle.scfs_world.specs.Built.{is_built}
use Rattle.scfs_live.specs.declared.finding.Found.{Found}
use Rattle.scfs_live.specs.declared.finding.Found.TheVariants as founds
use Rattle.scfs_live.specs.Finding.{body_found, compared, event_found, event_read, found, is_left_out, kept_found, no_line}

bytes_eq-same : (xs : List ℕ) → bytes_eq xs xs ≡ true
bytes_eq-same [] = refl
bytes_eq-same (x ∷ xs) = ap (λ b. b && bytes_eq xs xs) (eq-eqb x x refl) ∙ bytes_eq-same xs

pub bytes_eq-equal : (xs ys : List ℕ) → xs ≡ ys → bytes_eq xs ys ≡ true
bytes_eq-equal xs ys same = ap (λ l. bytes_eq l ys) same ∙ bytes_eq-same ys

same_line : (same : Found) (line made : List ℕ) → line ≡ made → compared same line made ≡ same
same_line same line made is = ap (λ t. cond t same (founds.Differs line made)) (bytes_eq-equal line made is)

by_mark : (line : List ℕ) (rest : Found) (t : Bool) → is_left_out line ≡ t → cond (is_left_out line) founds.LeftOut rest ≡ cond t founds.LeftOut rest
by_mark line rest t is = ap (λ b. cond b founds.LeftOut rest) is

-- a line that is left out
pub found_left_out : (header : Header) (first lines : List (List ℕ)) (line : List ℕ) → is_left_out line ≡ true
    → found header (record { header = first; lines = lines }) line ≡ founds.LeftOut
found_left_out header first lines line out = by_mark line _ true out

-- the next line of the header
pub found_header_line : (header : Header) (first : List ℕ) (others lines : List (List ℕ)) (line : List ℕ) → is_left_out line ≡ false → line ≡ first
    → found header (record { header = first ∷ others; lines = lines }) line ≡ founds.KeepsHeader
found_header_line header first others lines line kept is = by_mark line _ false kept ∙ same_line founds.KeepsHeader line first is

-- a kept line, beside the one that was made
pub found_line : (header : Header) (made rest : List ℕ) (others : List (List ℕ)) (line : List ℕ) → is_left_out line ≡ false → line ≡ 32 ∷ rest
    → found header (record { header = []; lines = made ∷ others }) line ≡ compared founds.KeepsLine rest made
found_line header made rest others line kept is = by_mark line _ false kept ∙ ap (body_found header (Some made)) is

-- a kept line where none is to be kept
pub found_beyond : (header : Header) (rest line : List ℕ) → is_left_out line ≡ false → line ≡ 32 ∷ rest
    → found header (record { header = []; lines = [] }) line ≡ founds.Differs rest no_line
found_beyond header rest line kept is = by_mark line _ false kept ∙ ap (body_found header None) is

not_both : (read : Result Event BadKind) (event : Event) (kind : BadKind) → read ≡ Ok event → read ≡ Err kind → ⊥
not_both read event kind ok err = cc

-- a line that begins with a space is no event
event_body : (header : Header) (made : Option (List ℕ)) (event : Event) (line : List ℕ) → event_read header line ≡ Ok event
    → body_found header made line ≡ event_found made (Ok event)
event_body header made event [] is = ap (event_found made) is
event_body header made event (byte ∷ rest) is = by_space (eqb byte 32) refl where
  by_space : (t : Bool) → eqb byte 32 ≡ t → body_found header made (byte ∷ rest) ≡ event_found made (Ok event)
  by_space false other = ap (λ b. cond b (kept_found made rest) (event_found made (event_read header (byte ∷ rest)))) other ∙ ap (event_found made) is
  by_space true space =
      let read : event_read header (32 ∷ rest) ≡ Ok event = subst (λ b. event_read header (b ∷ rest) ≡ Ok event) (eqb-true byte 32 space) is in
      absurd (not_both (event_read header (32 ∷ rest)) event kinds.Word read refl)

-- the line of an event
pub found_event : (header : Header) (event : Event) (line : List ℕ) → is_left_out line ≡ false → event_read header line ≡ Ok event
    → found header (record { header = []; lines = [] }) line ≡ founds.Does event
found_event header event line kept is = by_mark line _ false kept ∙ event_body header None event line is

-- the line of an event where a line is still to be kept
pub found_early : (header : Header) (event : Event) (made : List ℕ) (others : List (List ℕ)) (line : List ℕ) → is_left_out line ≡ false
    → event_read header line ≡ Ok event → is_built event ≡ true → found header (record { header = []; lines = made ∷ others }) line ≡ founds.Differs no_line made
found_early header event made others line kept is built =
    by_mark line _ false kept ∙ event_body header (Some made) event line is ∙ ap (λ t. cond t (founds.Differs no_line made) (founds.Does event)) built
