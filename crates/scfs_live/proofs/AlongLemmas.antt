-- Lines of what is left, run again, keep beside the old history.
use Rattle.std.proofs.Common.{◌≡◌, ℕ, ◌+◌, List, [], ◌∷◌, ◌++◌, refl, ap, ◌∙◌, sym, subst, Bool, true, false, cond, length, map, append_assoc, append-nil}
use Rattle.scfs_schedule.specs.declared.types.Event.{Event}
use Rattle.scfs_schedule.specs.declared.types.Header.{Header}
use Rattle.scfs_schedule.specs.Text.{event_text, header_text}
use Rattle.scfs_model.specs.History.{Entry, History}
use Rattle.scfs_live.specs.declared.finding.Found.{Found}
use Rattle.scfs_live.specs.declared.finding.Found.TheVariants as founds
use Rattle.scfs_live.specs.Finding.{found, is_left_out}
use Rattle.scfs_live.specs.GoingOn.{AreDone, event_lines, journal_lines, kept_lines}
use Rattle.scfs_live.specs.Keeping.{made_line, whole_lines}
use Rattle.scfs_live.specs.Reopening.{Follows, Walk, Walks, unwalked}
use Rattle.scfs_live.specs.RunAgain.{events_of}
use Rattle.scfs_live.proofs.BesideLemmas.{Does_next, Keeps_header, Keeps_line, Other, Seen, Spot, coming, seen}
use Rattle.scfs_live.proofs.FoundLemmas.{found_left_out}
use Rattle.scfs_live.proofs.GoingOnLemmas.{AreNext, are_next, at, in_order, journal-onto, next_lines, onto, onto-in_order, spaced, spaced-map}
use Rattle.scfs_live.proofs.LeavingLemmas.{kept_lines-append}

-- a walk beside an old history, of whose journal so many lines were kept and these are to come
pub record Stood (header : Header) (past : History) (place : Walk) (kept rest : List (List ℕ)) : Type 0 where
  pub old : History
  pub waiting : List (List ℕ)
  pub next : List Entry
  pub all : onto next old ≡ past
  pub spot : Spot header place.past place.awaited.header old kept waiting next
  pub comes : rest ≡ coming place.awaited.header waiting next old

module _ (header : Header) (past : History) where
  -- the next old event is done
  does_next : (place new : Walk) (kept rest : List (List ℕ)) (line : List ℕ) (s : Stood header past place kept (line ∷ rest)) (e : Entry) (others : List Entry)
      → s.next ≡ e ∷ others → line ≡ event_text e.event → journal_lines header s.old ≡ kept
      → rest ≡ map (λ l. 32 ∷ made_line (length s.old + 1) l) e.lines ++ next_lines others (e ∷ s.old)
      → Follows (founds.Does e.event) place new → Stood header past new (kept ++ line ∷ []) rest
  does_next place new kept rest line s e others next_is head whole tail follows =
      let old = s.old in
      let x = follows.2.0 in
      let waiting = map (made_line (length old + 1)) e.lines in
      let spaces : spaced waiting ≡ map (λ l. 32 ∷ made_line (length old + 1) l) e.lines = spaced-map (length old + 1) e.lines in
      let are = subst (λ (n : List Entry). AreNext header n old) next_is s.spot.are in
      let spot : Spot header (x ∷ place.past) [] (e ∷ old) (kept ++ line ∷ []) waiting others = record {
        same = ap (λ (v : Event). v ∷ events_of place.past) follows.2.1 ∙ ap (λ (vs : List Event). e.event ∷ vs) s.spot.same;
        are = are.3;
        front = ap (λ ls. ls ++ event_lines old e) whole ∙ ap (λ l. kept ++ l ∷ map (λ l. 32 ∷ made_line (length old + 1) l) e.lines) (sym head)
            ∙ ap (λ ls. kept ++ line ∷ ls) (sym spaces) ∙ sym (append_assoc kept (line ∷ []) (spaced waiting));
        last = ([], ap (λ ls. ls ++ line ∷ []) (sym whole) ∙ ap (λ l. journal_lines header old ++ l ∷ []) head);
      } in
      subst (λ (w : Walk). Stood header past w (kept ++ line ∷ []) rest) (sym follows.2.2) (record {
        old = e ∷ old;
        waiting = waiting;
        next = others;
        all = ap (λ (n : List Entry). onto n old) (sym next_is) ∙ s.all;
        spot = spot;
        comes = tail ∙ ap (λ ls. ls ++ next_lines others (e ∷ old)) (sym spaces);
      })

  follows_seen : (place new : Walk) (kept rest : List (List ℕ)) (line : List ℕ) (s : Stood header past place kept (line ∷ rest))
      → Seen header place.past place.awaited.header place.awaited.lines s.old kept s.waiting s.next line rest
      → Follows (found header place.awaited line) place new → Stood header past new (kept ++ line ∷ []) rest
  follows_seen place new kept rest line s (Keeps_header hs is leads spot tail) follows =
      let at_new : new ≡ at place.past hs place.awaited.lines = leads new (subst (λ (f : Found). Follows f place new) is follows) in
      subst (λ (w : Walk). Stood header past w (kept ++ line ∷ []) rest) (sym at_new)
      (record { old = s.old; waiting = s.waiting; next = s.next; all = s.all; spot = spot; comes = tail })
  follows_seen place new kept rest line s (Keeps_line ms later is leads spot tail) follows =
      let at_new : new ≡ at place.past [] ms = leads new (subst (λ (f : Found). Follows f place new) is follows) in
      subst (λ (w : Walk). Stood header past w (kept ++ line ∷ []) rest) (sym at_new)
      (record { old = s.old; waiting = later; next = s.next; all = s.all; spot = spot; comes = tail })
  follows_seen place new kept rest line s (Does_next e others is next_is head whole tail) follows =
      does_next place new kept rest line s e others next_is head whole tail (subst (λ (f : Found). Follows f place new) is follows)
  follows_seen place new kept rest line s (Other made kept' is none other) follows =
      absurd (subst (λ (f : Found). Follows f place new) is follows)

  pub seen_at : (place : Walk) (kept rest : List (List ℕ)) (line : List ℕ) → is_left_out line ≡ false → (s : Stood header past place kept (line ∷ rest))
      → Seen header place.past place.awaited.header place.awaited.lines s.old kept s.waiting s.next line rest
  seen_at place kept rest line plain s =
      seen header place.past s.old kept line rest plain place.awaited.header place.awaited.lines s.waiting s.next s.spot s.comes

  -- one line leads on, whether it is left out or not
  step : (place new : Walk) (kept later : List (List ℕ)) (line : List ℕ) (lines : List (List ℕ)) (t : Bool) → is_left_out line ≡ t
      → Follows (found header place.awaited line) place new → Stood header past place kept (kept_lines (line ∷ lines) ++ later)
      → Stood header past new (kept ++ kept_lines (line ∷ [])) (kept_lines lines ++ later)
  step place new kept later line lines true out follows s =
      let skip : kept_lines (line ∷ lines) ≡ kept_lines lines = ap (λ b. cond b (kept_lines lines) (line ∷ kept_lines lines)) out in
      let none : kept_lines (line ∷ []) ≡ [] = ap (λ b. cond b [] (line ∷ [])) out in
      let stays : new ≡ place = subst (λ (f : Found). Follows f place new) (found_left_out header place.awaited.header place.awaited.lines line out) follows in
      subst (λ (w : Walk). Stood header past w (kept ++ kept_lines (line ∷ [])) (kept_lines lines ++ later)) (sym stays)
      (subst (λ ls. Stood header past place ls (kept_lines lines ++ later)) (sym (ap (λ ls. kept ++ ls) none ∙ append-nil kept))
      (subst (λ ls. Stood header past place kept (ls ++ later)) skip s))
  step place new kept later line lines false plain follows s =
      let keep : kept_lines (line ∷ lines) ≡ line ∷ kept_lines lines = ap (λ b. cond b (kept_lines lines) (line ∷ kept_lines lines)) plain in
      let one : kept_lines (line ∷ []) ≡ line ∷ [] = ap (λ b. cond b [] (line ∷ [])) plain in
      let at_line = subst (λ ls. Stood header past place kept (ls ++ later)) keep s in
      subst (λ ls. Stood header past new (kept ++ ls) (kept_lines lines ++ later)) (sym one)
      (follows_seen place new kept (kept_lines lines ++ later) line at_line (seen_at place kept (kept_lines lines ++ later) line plain at_line) follows)

  -- and so do lines
  along : (lines : List (List ℕ)) (place new : Walk) (kept later : List (List ℕ)) → Walks header place lines new
      → Stood header past place kept (kept_lines lines ++ later) → Stood header past new (kept ++ kept_lines lines) later
  along [] place new kept later walks s =
      subst (λ (w : Walk). Stood header past w (kept ++ []) later) (sym walks) (subst (λ ls. Stood header past place ls later) (sym (append-nil kept)) s)
  along (line ∷ lines) place new kept later walks s =
      let one = kept_lines (line ∷ []) in
      subst (λ ls. Stood header past new ls later)
      (append_assoc kept one (kept_lines lines) ∙ ap (λ ls. kept ++ ls) (sym (kept_lines-append (line ∷ []) lines)))
      (along lines walks.0 new (kept ++ one) later walks.2 (step place walks.0 kept later line lines (is_left_out line) refl walks.1 s))

  -- before the first line
  begins : AreDone header past → Stood header past (unwalked header) [] (journal_lines header past)
  begins done =
      let next = in_order past [] in
      let first = whole_lines (header_text header) in
      let same : onto next [] ≡ past = onto-in_order past [] in
      record {
        old = [];
        waiting = [];
        next = next;
        all = same;
        spot = record { same = refl; are = are_next header past [] done tt; front = sym (append-nil first); last = tt };
        comes = ap (journal_lines header) (sym same) ∙ sym (journal-onto header next []) ∙ ap (λ ls. ls ++ next_lines next []) (sym (append-nil first));
      }

  -- lines of what is left that were run again
  pub stood : (lines later : List (List ℕ)) (place : Walk) → AreDone header past → journal_lines header past ≡ kept_lines lines ++ later
      → Walks header (unwalked header) lines place → Stood header past place (kept_lines lines) later
  stood lines later place done left walks =
      along lines (unwalked header) place [] later walks (subst (λ ls. Stood header past (unwalked header) [] ls) left (begins done))
