-- The events of lines that were run again are read again from their lines.
use Rattle.std.proofs.Common.{◌≡◌, ℕ, List, [], ◌∷◌, refl, ap, ◌∙◌, sym, subst, Bool, true, false, cond, eqb, Option, None, Some, Result, Ok, Err}
use Rattle.std.specs.Prelude.{slice_get}
use Rattle.std.specs.Str.{bytes_eq}
use Rattle.scfs_schedule.specs.declared.types.BadKind.{BadKind}
use Rattle.scfs_schedule.specs.declared.types.Event.{Event}
use Rattle.scfs_schedule.specs.declared.types.Header.{Header}
use Rattle.scfs_schedule.specs.Text.{event_text}
use Rattle.scfs_schedule.proofs.ReadBackLemmas.{line_spelled}
use Rattle.scfs_world.specs.Built.{is_built}
use Rattle.scfs_live.specs.declared.awaited.Awaited.{Awaited}
use Rattle.scfs_live.specs.declared.finding.Found.{Found}
use Rattle.scfs_live.specs.declared.finding.Found.TheVariants as founds
use Rattle.scfs_live.specs.Finding.{body_found, event_found, event_read, found, is_left_out, kept_found, line_found, no_line}
use Rattle.scfs_live.specs.GoingOn.{AreDone, WalkedAreDone}
use Rattle.scfs_live.specs.Reopening.{Follows, Walk, Walks, unwalked}

module _ (event : Event) where
  -- a line that is compared is no event
  by_test : (same : Found) (kept made : List ℕ) (t : Bool) → (same ≡ founds.Does event → ⊥) → cond t same (founds.Differs kept made) ≡ founds.Does event → ⊥
  by_test same kept made true other is = other is
  by_test same kept made false other is = cc

  kept_line : (made : Option (List ℕ)) (kept : List ℕ) → kept_found made kept ≡ founds.Does event → ⊥
  kept_line None kept is = cc
  kept_line (Some made) kept is = by_test founds.KeepsLine kept made (bytes_eq kept made) (λ same. cc) is

  by_built : (made : List ℕ) (x : Event) (t : Bool) → cond t (founds.Differs no_line made) (founds.Does x) ≡ founds.Does event → x ≡ event
  by_built made x true is = cc
  by_built made x false is = cc

  event_line : (made : Option (List ℕ)) (read : Result Event BadKind) → event_found made read ≡ founds.Does event → read ≡ Ok event
  event_line made (Err kind) is = cc
  event_line None (Ok x) is = cc
  event_line (Some made) (Ok x) is = ap (λ (e : Event). Ok e) (by_built made x (is_built x) is)

  by_space : (made : Option (List ℕ)) (rest : List ℕ) (read : Result Event BadKind) (t : Bool) → cond t (kept_found made rest) (event_found made read) ≡ founds.Does event
      → read ≡ Ok event
  by_space made rest read true is = absurd (kept_line made rest is)
  by_space made rest read false is = event_line made read is

  body_line : (header : Header) (made : Option (List ℕ)) (line : List ℕ) → body_found header made line ≡ founds.Does event → event_read header line ≡ Ok event
  body_line header made [] is = event_line made (event_read header []) is
  body_line header made (byte ∷ rest) is = by_space made rest (event_read header (byte ∷ rest)) (eqb byte 32) is

  header_line : (header : Header) (first made : Option (List ℕ)) (line : List ℕ) → line_found header first made line ≡ founds.Does event → event_read header line ≡ Ok event
  header_line header None made line is = body_line header made line is
  header_line header (Some first) made line is = absurd (by_test founds.KeepsHeader line first (bytes_eq line first) (λ same. cc) is)

  by_mark : (rest : Found) (t : Bool) → cond t founds.LeftOut rest ≡ founds.Does event → rest ≡ founds.Does event
  by_mark rest true is = cc
  by_mark rest false is = is

  -- the line of an event is read as that event
  found_read : (header : Header) (awaited : Awaited) (line : List ℕ) → found header awaited line ≡ founds.Does event → event_read header line ≡ Ok event
  found_read header awaited line is =
      header_line header (slice_get awaited.header 0) (slice_get awaited.lines 0) line
      (by_mark (line_found header (slice_get awaited.header 0) (slice_get awaited.lines 0) line) (is_left_out line) is)

-- a line leads on
done_on : (header : Header) (old new : Walk) (line : List ℕ) (is : Found) → found header old.awaited line ≡ is → Follows is old new → AreDone header old.past
    → AreDone header new.past
done_on header old new line founds.LeftOut same follows done = subst (λ (w : Walk). AreDone header w.past) (sym follows) done
done_on header old new line founds.KeepsHeader same follows done = subst (λ (w : Walk). AreDone header w.past) (sym follows) done
done_on header old new line founds.KeepsLine same follows done = subst (λ (w : Walk). AreDone header w.past) (sym follows) done
done_on header old new line (founds.Does event) same follows done =
    let e = follows.2.0 in
    let event_is = follows.2.1 in
    let read = found_read event header old.awaited line same in
    let again : event_read header (event_text event) ≡ Ok event = subst (λ l. event_read header l ≡ Ok event) (line_spelled header line event read) read in
    let its : event_read header (event_text e.event) ≡ Ok e.event = subst (λ (x : Event). event_read header (event_text x) ≡ Ok x) (sym event_is) again in
    let built = ap (λ (x : Event). is_built x) event_is ∙ follows.0 in
    subst (λ (w : Walk). AreDone header w.past) (sym follows.2.2) (its, built, follows.1, done)
done_on header old new line (founds.Differs kept made) same follows done = absurd follows
done_on header old new line (founds.Wrong kind) same follows done = absurd follows

done_along : (header : Header) (lines : List (List ℕ)) (old new : Walk) → Walks header old lines new → AreDone header old.past → AreDone header new.past
done_along header [] old new walks done = subst (λ (w : Walk). AreDone header w.past) (sym walks) done
done_along header (line ∷ lines) old new walks done =
    done_along header lines walks.0 new walks.2 (done_on header old walks.0 line (found header old.awaited line) refl walks.1 done)

pub walked_are_done : WalkedAreDone
walked_are_done header lines place walks = done_along header lines (unwalked header) place walks tt
