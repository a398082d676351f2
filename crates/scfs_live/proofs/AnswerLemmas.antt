-- What running again answers over what is left of a journal: lines that were run again, and the line at which that ends.
use Rattle.std.proofs.Common.{◌≡◌, ◌≢◌, ◌<◌, ◌≤◌, ℕ, ◌+◌, List, [], ◌∷◌, ◌++◌, refl, ap, ◌∙◌, sym, subst, Bool, true, false, cond, Option, length, append_assoc, arith}
use Rattle.std.proofs.lemmas.List.{append_cancel_left}
use Rattle.scfs_base.specs.Limits.{carried_limit, events_limit}
use Rattle.scfs_policy.specs.declared.rank.RankFacts.{RankFacts}
use Rattle.scfs_schedule.specs.Text.{event_text}
use Rattle.scfs_schedule.specs.declared.types.BadKind.{BadKind}
use Rattle.scfs_schedule.specs.declared.types.Event.{Event}
use Rattle.scfs_schedule.specs.declared.types.Header.{Header}
use Rattle.scfs_schedule.specs.declared.types.Which.TheVariants as whichs
use Rattle.scfs_model.specs.Clouds.{IsServed, net}
use Rattle.scfs_model.specs.History.{Entry, History}
use Rattle.scfs_model.specs.Runs.{Happens}
use Rattle.scfs_model.specs.UnitFormat.{under}
use Rattle.scfs_world.specs.Built.{is_built}
use Rattle.scfs_world.specs.Happening.{IsPlayed}
use Rattle.scfs_live.specs.declared.ending.LiveEnd.{LiveEnd}
use Rattle.scfs_live.specs.declared.ending.LiveEnd.TheVariants as ends
use Rattle.scfs_live.specs.declared.finding.Found.{Found}
use Rattle.scfs_live.specs.declared.finding.Found.TheVariants as founds
use Rattle.scfs_live.specs.Finding.{found, is_left_out}
use Rattle.scfs_live.specs.GoingOn.{AreDone, journal_lines, kept_lines}
use Rattle.scfs_live.specs.Keeping.{whole_lines}
use Rattle.scfs_live.specs.Reopening.{EndsAt, Walk, Walks, unwalked}
use Rattle.scfs_live.specs.RunAgain.{DiffersAgain, EndsLeft, GoesAgain, TooLargeAgain, any_answer, events_of, ranks_of}
use Rattle.scfs_live.specs.TooLarge.{IsTooLargeNext, entry_after}
use Rattle.scfs_live.proofs.AlongLemmas.{Stood, seen_at, stood}
use Rattle.scfs_live.proofs.BesideLemmas.{Does_next, Keeps_header, Keeps_line, Other, Seen}
use Rattle.scfs_live.proofs.FoundLemmas.{found_left_out}
use Rattle.scfs_live.proofs.GoingOnLemmas.{AreNext, onto, onto-append, spaced}
use Rattle.scfs_live.proofs.KeptLemmas.{walked_are_kept}
use Rattle.scfs_live.proofs.LeavingLemmas.{kept_lines-append}
use Rattle.scfs_live.proofs.PlayedLemmas.{carried_more, entry_again, happens_before, same_history, same_length, served_before}

-- what a line is found to be is one thing

left_out_does : (event : Event) → founds.LeftOut ≡ founds.Does event → ⊥
left_out_does event is = cc

left_out_differs : (kept made : List ℕ) → founds.LeftOut ≡ founds.Differs kept made → ⊥
left_out_differs kept made is = cc

left_out_wrong : (kind : BadKind) → founds.LeftOut ≡ founds.Wrong kind → ⊥
left_out_wrong kind is = cc

header_does : (event : Event) → founds.KeepsHeader ≡ founds.Does event → ⊥
header_does event is = cc

header_differs : (kept made : List ℕ) → founds.KeepsHeader ≡ founds.Differs kept made → ⊥
header_differs kept made is = cc

header_wrong : (kind : BadKind) → founds.KeepsHeader ≡ founds.Wrong kind → ⊥
header_wrong kind is = cc

line_does : (event : Event) → founds.KeepsLine ≡ founds.Does event → ⊥
line_does event is = cc

line_differs : (kept made : List ℕ) → founds.KeepsLine ≡ founds.Differs kept made → ⊥
line_differs kept made is = cc

line_wrong : (kind : BadKind) → founds.KeepsLine ≡ founds.Wrong kind → ⊥
line_wrong kind is = cc

does_wrong : (event : Event) (kind : BadKind) → founds.Does event ≡ founds.Wrong kind → ⊥
does_wrong event kind is = cc

does_differs : (event : Event) (kept made : List ℕ) → founds.Does event ≡ founds.Differs kept made → ⊥
does_differs event kept made is = cc

does_same : (x y : Event) → founds.Does x ≡ founds.Does y → x ≡ y
does_same x y is = cc

differs_wrong : (kept made : List ℕ) (kind : BadKind) → founds.Differs kept made ≡ founds.Wrong kind → ⊥
differs_wrong kept made kind is = cc

differs_does : (kept made : List ℕ) (event : Event) → founds.Differs kept made ≡ founds.Does event → ⊥
differs_does kept made event is = cc

both_ways : (b : Bool) → b ≡ true → b ≡ false → ⊥
both_ways b holds fails = cc

spaced_same : (xs ys : List (List ℕ)) → spaced xs ≡ spaced ys → xs ≡ ys
spaced_same [] [] is = refl
spaced_same [] (y ∷ ys) is = cc
spaced_same (x ∷ xs) [] is = cc
spaced_same (x ∷ xs) (y ∷ ys) is =
    let head : x ≡ y = cc in
    let tail : spaced xs ≡ spaced ys = cc in
    ap (λ l. l ∷ xs) head ∙ ap (λ ls. y ∷ ls) (spaced_same xs ys tail)

-- a history whose journal was left, and which was played
module _ (allows : RankFacts → ℕ → Type 0) (header : Header) (past : History) (done : AreDone header past) (plays : IsPlayed any_answer header past) where
  -- a walk beside it
  abbrev goes_from : (lines later : List (List ℕ)) (place : Walk) → Stood header past place (kept_lines lines) later → Walks header (unwalked header) lines place
      → GoesAgain header past lines place
  goes_from lines later place s walks = record {
    whole = s.old;
    later = onto s.next [];
    first = sym s.all ∙ onto-append s.next s.old;
    rest = place.awaited.header ++ spaced s.waiting;
    front = s.spot.front;
    last = s.spot.last;
    same = s.spot.same;
    made = walked_are_kept header lines place walks;
  }

  pub goes_again : (lines later : List (List ℕ)) (place : Walk) → journal_lines header past ≡ kept_lines lines ++ later
      → Walks header (unwalked header) lines place → GoesAgain header past lines place
  goes_again lines later place left walks = goes_from lines later place (stood header past lines later place done left walks) walks

  -- where the rank rule answered as before, the history is the old one
  as_before : (new old later : History) → past ≡ later ++ old → IsPlayed allows header new → events_of new ≡ events_of old → ranks_of new ≡ ranks_of old → new ≡ old
  as_before new old later first played same ranks =
      same_history (under header) new old played.happens
      (happens_before (under header) later old (subst (λ (h : History). Happens (under header) h) first plays.happens))
      played.served
      (served_before (under header) later old (subst (λ (h : History). IsServed (under header) h) first plays.served))
      same ranks

  -- and so are the lines still to be kept
  as_waiting : (lines later : List (List ℕ)) (place : Walk) (s : Stood header past place (kept_lines lines) later) → Walks header (unwalked header) lines place
      → place.past ≡ s.old → place.awaited.lines ≡ s.waiting
  as_waiting lines later place s walks same =
      let kept = kept_lines lines in
      let first = place.awaited.header in
      let both : kept ++ (first ++ spaced place.awaited.lines) ≡ kept ++ (first ++ spaced s.waiting) =
      walked_are_kept header lines place walks ∙ ap (journal_lines header) same ∙ s.spot.front in
      spaced_same place.awaited.lines s.waiting
      (append_cancel_left first (spaced place.awaited.lines) (spaced s.waiting) (append_cancel_left kept (first ++ spaced place.awaited.lines) (first ++ spaced s.waiting) both))

  -- the lines of what is left, and the line that ended the running again
  module _ (text : List ℕ) (earlier after : Option (List ℕ)) (nothing : after ≡ earlier) (before later : List (List ℕ)) (line : List ℕ)
      (parts : whole_lines text ≡ before ++ line ∷ later) (place : Walk) (played : IsPlayed allows header place.past)
      (walks : Walks header (unwalked header) before place) where
    abbrev number : ℕ
    number = length before + 1

    abbrev Ends : LiveEnd → Type 0
    Ends end = EndsLeft allows header past text earlier after end

    -- a line that is kept or left out ends nothing
    ends_kept : (f : Found) → ((event : Event) → f ≡ founds.Does event → ⊥) → ((kept made : List ℕ) → f ≡ founds.Differs kept made → ⊥)
        → ((kind : BadKind) → f ≡ founds.Wrong kind → ⊥) → (end : LiveEnd) → EndsAt allows header place.past number f end → Ends end
    ends_kept f does differs wrong (ends.Bad bad) e = absurd (wrong bad.kind e.1)
    ends_kept f does differs wrong (ends.Unbuilt line) e = absurd (does e.1.0 e.1.1)
    ends_kept f does differs wrong (ends.Differs line kept made) e = absurd (differs kept made e.1)
    ends_kept f does differs wrong (ends.TooLarge whichs.Events) e = absurd (does e.0 e.1)
    ends_kept f does differs wrong (ends.TooLarge whichs.Objects) e = absurd (does e.0 e.1)
    ends_kept f does differs wrong (ends.TooLarge which) e = absurd e
    ends_kept f does differs wrong (ends.ReadFault which) e = absurd e
    ends_kept f does differs wrong (ends.WriteFault which) e = absurd e
    ends_kept f does differs wrong ends.Memory e = nothing

    -- the line of an event that the program can do ends it only where it would carry too many bytes
    ends_does : (event : Event) → is_built event ≡ true → length place.past < events_limit
        → (IsTooLargeNext allows header place.past event → TooLargeAgain allows header past (whole_lines text))
        → (end : LiveEnd) → EndsAt allows header place.past number (founds.Does event) end → Ends end
    ends_does event built few large (ends.Bad bad) e = absurd (does_wrong event bad.kind e.1)
    ends_does event built few large (ends.Unbuilt line) e =
        absurd (both_ways (is_built event) built (ap (λ (v : Event). is_built v) (does_same event e.1.0 e.1.1) ∙ e.1.2))
    ends_does event built few large (ends.Differs line kept made) e = absurd (does_differs event kept made e.1)
    ends_does event built few large (ends.TooLarge whichs.Events) e = absurd (omega (arith, few, e.3))
    ends_does event built few large (ends.TooLarge whichs.Objects) e =
        (nothing, large (subst (λ (v : Event). IsTooLargeNext allows header place.past v) (sym (does_same event e.0 e.1)) e.4))
    ends_does event built few large (ends.TooLarge which) e = absurd e
    ends_does event built few large (ends.ReadFault which) e = absurd e
    ends_does event built few large (ends.WriteFault which) e = absurd e
    ends_does event built few large ends.Memory e = nothing

    -- a line that differs
    ends_differs : (is made : List ℕ) → ((n : ℕ) (kept' made' : List ℕ) → n ≡ number → founds.Differs is made ≡ founds.Differs kept' made'
        → DiffersAgain allows header past (whole_lines text) n kept' made')
        → (end : LiveEnd) → EndsAt allows header place.past number (founds.Differs is made) end → Ends end
    ends_differs is made differs (ends.Bad bad) e = absurd (differs_wrong is made bad.kind e.1)
    ends_differs is made differs (ends.Unbuilt line) e = absurd (differs_does is made e.1.0 e.1.1)
    ends_differs is made differs (ends.Differs line kept' made') e = (nothing, differs line kept' made' e.0 e.1)
    ends_differs is made differs (ends.TooLarge whichs.Events) e = absurd (differs_does is made e.0 e.1)
    ends_differs is made differs (ends.TooLarge whichs.Objects) e = absurd (differs_does is made e.0 e.1)
    ends_differs is made differs (ends.TooLarge which) e = absurd e
    ends_differs is made differs (ends.ReadFault which) e = absurd e
    ends_differs is made differs (ends.WriteFault which) e = absurd e
    ends_differs is made differs ends.Memory e = nothing

    module _ (rest : List (List ℕ)) (s : Stood header past place (kept_lines before) (line ∷ rest)) where
      -- the next old event is too large
      large_next : (e : Entry) (others : List Entry) → s.next ≡ e ∷ others → line ≡ event_text e.event
          → IsTooLargeNext allows header place.past e.event → TooLargeAgain allows header past (whole_lines text)
      large_next e others next_is head large =
          let all : past ≡ onto others [] ++ e ∷ s.old = sym s.all ∙ ap (λ (n : List Entry). onto n s.old) next_is ∙ onto-append others (e ∷ s.old) in
          record {
            number = number;
            next = e;
            goes = record {
              before = before;
              later = later;
              parts = parts ∙ ap (λ l. before ++ l ∷ later) head;
              counted = refl;
              place = place;
              plays = played;
              again = goes_from before (line ∷ rest) place s walks;
            };
            comes = onto others [];
            behind = all;
            ranks = large.0;
            answers = large.1;
            large = large.2;
            otherwise = too_large_before e (onto others []) all large.0 large.2;
          } where
            too_large_before : (e : Entry) (comes : History) → past ≡ comes ++ e ∷ s.old → (ranks : List ℕ)
                → carried_limit < (net (under header) (entry_after (under header) place.past e.event ranks ∷ place.past)).carried
                → ranks ∷ ranks_of place.past ≢ ranks_of (e ∷ s.old)
            too_large_before e comes all ranks large same =
                let one : ranks ≡ e.ranks = cc in
                let others : ranks_of place.past ≡ ranks_of s.old = cc in
                let old : place.past ≡ s.old = as_before place.past s.old (onto s.next []) (sym s.all ∙ onto-append s.next s.old) played s.spot.same others in
                let happens = happens_before (under header) comes (e ∷ s.old) (subst (λ (h : History). Happens (under header) h) all plays.happens) in
                let served = served_before (under header) comes (e ∷ s.old) (subst (λ (h : History). IsServed (under header) h) all plays.served) in
                let at_old = subst (λ (h : History). carried_limit < (net (under header) (entry_after (under header) h e.event ranks ∷ h)).carried) old large in
                let with_ranks = subst (λ rs. carried_limit < (net (under header) (entry_after (under header) s.old e.event rs ∷ s.old)).carried) one at_old in
                let it = subst (λ (x : Entry). carried_limit < (net (under header) (x ∷ s.old)).carried) (entry_again (under header) s.old e happens served) with_ranks in
                let grew = carried_more (under header) comes (e ∷ s.old) in
                let whole = subst (λ (h : History). (net (under header) h).carried ≤ carried_limit) all plays.carried in
                omega (arith, it, grew, whole)

      -- a line differs
      differs_at : (is made : List ℕ) → found header place.awaited line ≡ founds.Differs is made → place.awaited.lines ≢ s.waiting
          → (n : ℕ) (kept' made' : List ℕ) → n ≡ number → founds.Differs is made ≡ founds.Differs kept' made'
          → DiffersAgain allows header past (whole_lines text) n kept' made'
      differs_at is made found_is other n kept' made' counted same = record {
        line = line;
        goes = record {
          before = before;
          later = later;
          parts = parts;
          counted = counted;
          place = place;
          plays = played;
          again = goes_from before (line ∷ rest) place s walks;
        };
        differs = found_is ∙ same;
        otherwise = λ ranks. other (as_waiting before (line ∷ rest) place s walks
            (as_before place.past s.old (onto s.next []) (sym s.all ∙ onto-append s.next s.old) played s.spot.same ranks));
      }

      by_seen : (end : LiveEnd) → Seen header place.past place.awaited.header place.awaited.lines s.old (kept_lines before) s.waiting s.next line rest
          → EndsAt allows header place.past number (found header place.awaited line) end → Ends end
      by_seen end (Keeps_header hs is leads spot tail) e =
          ends_kept founds.KeepsHeader header_does header_differs header_wrong end (subst (λ (f : Found). EndsAt allows header place.past number f end) is e)
      by_seen end (Keeps_line ms left is leads spot tail) e =
          ends_kept founds.KeepsLine line_does line_differs line_wrong end (subst (λ (f : Found). EndsAt allows header place.past number f end) is e)
      by_seen end (Does_next x others is next_is head whole tail) e =
          let are = subst (λ (n : List Entry). AreNext header n s.old) next_is s.spot.are in
          let few : length place.past < events_limit = omega (arith, are.2, same_length place.past s.old s.spot.same) in
          ends_does x.event are.1 few (large_next x others next_is head) end (subst (λ (f : Found). EndsAt allows header place.past number f end) is e)
      by_seen end (Other kept made is none other) e =
          ends_differs kept made (differs_at kept made is other) end (subst (λ (f : Found). EndsAt allows header place.past number f end) is e)

    by_mark : (rest : List (List ℕ)) (end : LiveEnd) (t : Bool) → is_left_out line ≡ t → Stood header past place (kept_lines before) (kept_lines (line ∷ later) ++ rest)
        → EndsAt allows header place.past number (found header place.awaited line) end → Ends end
    by_mark rest end true out s e =
        ends_kept founds.LeftOut left_out_does left_out_differs left_out_wrong end
        (subst (λ (f : Found). EndsAt allows header place.past number f end) (found_left_out header place.awaited.header place.awaited.lines line out) e)
    by_mark rest end false plain s e =
        let keep : kept_lines (line ∷ later) ≡ line ∷ kept_lines later = ap (λ b. cond b (kept_lines later) (line ∷ kept_lines later)) plain in
        let at_line = subst (λ ls. Stood header past place (kept_lines before) (ls ++ rest)) keep s in
        by_seen (kept_lines later ++ rest) at_line end (seen_at header past place (kept_lines before) (kept_lines later ++ rest) line plain at_line) e

    pub ends_at : (rest : List (List ℕ)) (end : LiveEnd) → journal_lines header past ≡ kept_lines (whole_lines text) ++ rest
        → EndsAt allows header place.past number (found header place.awaited line) end → Ends end
    ends_at rest end left e =
        let kept = kept_lines before in
        let comes = kept_lines (line ∷ later) in
        let left_here : journal_lines header past ≡ kept ++ (comes ++ rest) =
        left ∙ ap (λ ls. kept_lines ls ++ rest) parts ∙ ap (λ ls. ls ++ rest) (kept_lines-append before (line ∷ later)) ∙ append_assoc kept comes rest in
        by_mark rest end (is_left_out line) refl (stood header past before (comes ++ rest) place done left_here walks) e
