-- Running again beside the history whose journal was left.
use Rattle.std.proofs.Common.{◌≡◌, ◌≢◌, ℕ, ◌+◌, List, [], ◌∷◌, ◌++◌, refl, ap, ◌∙◌, sym, subst, Bool, true, false, cond, Ok, length, map, append_assoc, append-nil}
use Rattle.std.specs.Str.{bytes_eq}
use Rattle.scfs_schedule.specs.declared.types.Header.{Header}
use Rattle.scfs_schedule.specs.Text.{event_text}
use Rattle.scfs_model.specs.History.{Entry, History}
use Rattle.scfs_live.specs.declared.finding.Found.TheVariants as founds
use Rattle.scfs_live.specs.Finding.{event_read, found, is_left_out, no_line}
use Rattle.scfs_live.specs.GoingOn.{journal_lines}
use Rattle.scfs_live.specs.Keeping.{made_line}
use Rattle.scfs_live.specs.Reopening.{Follows, Walk}
use Rattle.scfs_live.specs.RunAgain.{HasLast, events_of}
use Rattle.scfs_live.proofs.FoundLemmas.{bytes_eq-equal, found_beyond, found_early, found_event, found_header_line, found_line}
use Rattle.scfs_live.proofs.GoingOnLemmas.{AreNext, at, next_lines, spaced}

-- The events so far are these old ones; of their journal so many lines were kept, and behind the header's lines these lines are to come.
pub record Spot (header : Header) (past : History) (first : List (List ℕ)) (old : History) (kept waiting : List (List ℕ)) (next : List Entry) : Type 0 where
  pub same : events_of past ≡ events_of old
  pub are : AreNext header next old
  pub front : journal_lines header old ≡ kept ++ (first ++ spaced waiting)
  pub last : HasLast header old kept

-- what comes of the old journal
abbrev pub coming : (first waiting : List (List ℕ)) → List Entry → History → List (List ℕ)
coming first waiting next old = (first ++ spaced waiting) ++ next_lines next old

pub has_last_more : (header : Header) (old : History) (kept more : List (List ℕ)) → HasLast header old kept → HasLast header old (kept ++ more)
has_last_more header [] kept more last = tt
has_last_more header (e ∷ old) kept more last =
    (last.0 ++ more, ap (λ ls. ls ++ more) last.1 ∙ append_assoc (journal_lines header old) (event_text e.event ∷ last.0) more)

-- What the next line of an old journal is found to be: it is kept, as the old one was; or it is the line of the next old event; or another
-- line was made.
pub data Seen (header : Header) (past : History) (first now : List (List ℕ)) (old : History) (kept waiting : List (List ℕ)) (next : List Entry)
    (line : List ℕ) (rest : List (List ℕ)) : Type 0 where
  Keeps_header :
      (hs : List (List ℕ)) → found header (record { header = first; lines = now }) line ≡ founds.KeepsHeader
      → ((new : Walk) → Follows founds.KeepsHeader (at past first now) new → new ≡ at past hs now)
      → Spot header past hs old (kept ++ line ∷ []) waiting next → rest ≡ coming hs waiting next old
      → Seen header past first now old kept waiting next line rest
  Keeps_line :
      (ms later : List (List ℕ)) → found header (record { header = first; lines = now }) line ≡ founds.KeepsLine
      → ((new : Walk) → Follows founds.KeepsLine (at past first now) new → new ≡ at past [] ms)
      → Spot header past [] old (kept ++ line ∷ []) later next → rest ≡ coming [] later next old
      → Seen header past first now old kept waiting next line rest
  Does_next :
      (e : Entry) (others : List Entry) → found header (record { header = first; lines = now }) line ≡ founds.Does e.event
      → next ≡ e ∷ others → line ≡ event_text e.event → journal_lines header old ≡ kept
      → rest ≡ map (λ l. 32 ∷ made_line (length old + 1) l) e.lines ++ next_lines others (e ∷ old)
      → Seen header past first now old kept waiting next line rest
  Other :
      (is made : List ℕ) → found header (record { header = first; lines = now }) line ≡ founds.Differs is made
      → first ≡ [] → now ≢ waiting → Seen header past first now old kept waiting next line rest

module _ (header : Header) (past old : History) (kept : List (List ℕ)) (line : List ℕ) (rest : List (List ℕ)) (plain : is_left_out line ≡ false) where
  -- a line more was kept
  spot_more : (first hs waiting later : List (List ℕ)) (next : List Entry) → Spot header past first old kept waiting next
      → first ++ spaced waiting ≡ line ∷ (hs ++ spaced later) → Spot header past hs old (kept ++ line ∷ []) later next
  spot_more first hs waiting later next spot is = record {
    same = spot.same;
    are = spot.are;
    front = spot.front ∙ ap (λ ls. kept ++ ls) is ∙ sym (append_assoc kept (line ∷ []) (hs ++ spaced later));
    last = has_last_more header old kept (line ∷ []) spot.last;
  }

  seen_header : (h : List ℕ) (hs now waiting : List (List ℕ)) (next : List Entry) → Spot header past (h ∷ hs) old kept waiting next
      → line ∷ rest ≡ coming (h ∷ hs) waiting next old → Seen header past (h ∷ hs) now old kept waiting next line rest
  seen_header h hs now waiting next spot comes =
      let head : line ≡ h = cc in
      let tail : rest ≡ coming hs waiting next old = cc in
      Keeps_header hs (found_header_line header h hs now line plain head) (λ new follows. follows)
      (spot_more (h ∷ hs) hs waiting waiting next spot (ap (λ l. l ∷ (hs ++ spaced waiting)) (sym head))) tail

  by_test : (m m0 : List ℕ) (ms ms0 : List (List ℕ)) (next : List Entry) (t : Bool) → bytes_eq m0 m ≡ t → line ≡ 32 ∷ m0 → rest ≡ coming [] ms0 next old
      → Spot header past [] old kept (m0 ∷ ms0) next → Seen header past [] (m ∷ ms) old kept (m0 ∷ ms0) next line rest
  by_test m m0 ms ms0 next true test head tail spot =
      Keeps_line ms ms0 (found_line header m m0 ms line plain head ∙ ap (λ t. cond t founds.KeepsLine (founds.Differs m0 m)) test) (λ new follows. follows)
      (spot_more [] [] (m0 ∷ ms0) ms0 next spot (ap (λ l. l ∷ spaced ms0) (sym head))) tail
  by_test m m0 ms ms0 next false test head tail spot =
      Other m0 m (found_line header m m0 ms line plain head ∙ ap (λ t. cond t founds.KeepsLine (founds.Differs m0 m)) test) refl
      (λ same. (let heads : m0 ≡ m = cc in let equal : bytes_eq m0 m ≡ true = bytes_eq-equal m0 m heads in cc))

  seen_line : (m0 : List ℕ) (now ms0 : List (List ℕ)) (next : List Entry) → line ≡ 32 ∷ m0 → rest ≡ coming [] ms0 next old
      → Spot header past [] old kept (m0 ∷ ms0) next → Seen header past [] now old kept (m0 ∷ ms0) next line rest
  seen_line m0 [] ms0 next head tail spot = Other m0 no_line (found_beyond header m0 line plain head) refl (λ same. cc)
  seen_line m0 (m ∷ ms) ms0 next head tail spot = by_test m m0 ms ms0 next (bytes_eq m0 m) refl head tail spot

  seen_event : (e : Entry) (now : List (List ℕ)) (others : List Entry) → line ≡ event_text e.event
      → rest ≡ map (λ l. 32 ∷ made_line (length old + 1) l) e.lines ++ next_lines others (e ∷ old)
      → Spot header past [] old kept [] (e ∷ others) → Seen header past [] now old kept [] (e ∷ others) line rest
  seen_event e [] others head tail spot =
      let read : event_read header line ≡ Ok e.event = subst (λ l. event_read header l ≡ Ok e.event) (sym head) spot.are.0 in
      Does_next e others (found_event header e.event line plain read) refl head (spot.front ∙ append-nil kept) tail
  seen_event e (m ∷ ms) others head tail spot =
      let read : event_read header line ≡ Ok e.event = subst (λ l. event_read header l ≡ Ok e.event) (sym head) spot.are.0 in
      Other no_line m (found_early header e.event m ms line plain read spot.are.1) refl (λ same. cc)

  pub seen : (first now waiting : List (List ℕ)) (next : List Entry) → Spot header past first old kept waiting next → line ∷ rest ≡ coming first waiting next old
      → Seen header past first now old kept waiting next line rest
  seen (h ∷ hs) now waiting next spot comes = seen_header h hs now waiting next spot comes
  seen [] now (m0 ∷ ms0) next spot comes =
      let head : line ≡ 32 ∷ m0 = cc in
      let tail : rest ≡ coming [] ms0 next old = cc in
      seen_line m0 now ms0 next head tail spot
  seen [] now [] (e ∷ others) spot comes =
      let head : line ≡ event_text e.event = cc in
      let tail : rest ≡ map (λ l. 32 ∷ made_line (length old + 1) l) e.lines ++ next_lines others (e ∷ old) = cc in
      seen_event e now others head tail spot
  seen [] now [] [] spot comes = cc
