-- A journal that was written to its end has all its lines.
use Rattle.std.proofs.Common.{◌≡◌, ◌≤◌, ℕ, ◌+◌, List, [], ◌∷◌, ◌++◌, refl, ap, ◌∙◌, sym, subst, Bool, true, false, not, cond, eqb, length, map, append_assoc, append-nil, length-append, arith}
use Rattle.std.specs.List.{flat_map}
use Rattle.std.proofs.lemmas.Grind.{flat_map-append}
use Rattle.scfs_base.specs.Pieces.{onto, pieces}
use Rattle.scfs_schedule.specs.Holding.{is_unfinished}
use Rattle.scfs_schedule.specs.Text.{event_text}
use Rattle.scfs_schedule.specs.declared.types.Header.{Header}
use Rattle.scfs_schedule.specs.declared.types.Line.{Line}
use Rattle.scfs_model.specs.History.{Entry, History}
use Rattle.scfs_live.specs.declared.awaited.Awaited.{Awaited}
use Rattle.scfs_live.specs.GoingOn.{awaited_lines, event_lines, journal_lines, kept_lines}
use Rattle.scfs_live.specs.Journal.{entry_piece, kept_line, pieces_of}
use Rattle.scfs_live.specs.Keeping.{all_but_last, awaited_text, ended, ended_kept, made_line, mark_if, missing, whole_lines}
use Rattle.scfs_live.specs.Reopening.{Walk}
use Rattle.scfs_live.specs.RunAgain.{GoesAgain}
use Rattle.scfs_live.proofs.KeepingLemmas.{all_but_last-pieces}
use Rattle.scfs_live.proofs.LeavingLemmas.{before, header_whole, kept_lines-append, stops_leave_journals, whole_lines-front}
use Rattle.scfs_live.proofs.PlainLemmas.{ArePlain, HoldsNoEnd, are_plain_event, are_plain_rows, are_plain_then}
use Rattle.scfs_live.proofs.SplitLemmas.{is_unfinished-append}

-- whole lines, byte by byte

abbrev onto_line : ℕ → List (List ℕ) → List (List ℕ)
onto_line b [] = []
onto_line b (line ∷ lines) = (b ∷ line) ∷ lines

onto_first : (b : ℕ) (ps : List (List ℕ)) → all_but_last (onto b ps) ≡ onto_line b (all_but_last ps)
onto_first b [] = refl
onto_first b (p ∷ []) = refl
onto_first b (p ∷ q ∷ ps) = refl

by_end : (b : ℕ) (text : List ℕ) (t : Bool)
    → all_but_last (cond t ([] ∷ pieces 10 text) (onto b (pieces 10 text))) ≡ cond t ([] ∷ whole_lines text) (onto_line b (whole_lines text))
by_end b text true = all_but_last-pieces [] text
by_end b text false = onto_first b (pieces 10 text)

one_byte : (b : ℕ) (text : List ℕ) → whole_lines (b ∷ text) ≡ cond (eqb b 10) ([] ∷ whole_lines text) (onto_line b (whole_lines text))
one_byte b text = by_end b text (eqb b 10)

-- bytes that end with a line's end
abbrev IsFinished : List ℕ → Type 0
IsFinished text = is_unfinished text ≡ false

is_end : (t : Bool) → not t ≡ false → t ≡ true
is_end true h = refl
is_end false h = cc

abbrev HasLine : List (List ℕ) → Type 0
HasLine lines = (first : List ℕ) × (others : List (List ℕ)) × (lines ≡ first ∷ others)

more_lines : (b : ℕ) (lines : List (List ℕ)) (t : Bool) → HasLine lines → HasLine (cond t ([] ∷ lines) (onto_line b lines))
more_lines b lines true h = ([], lines, refl)
more_lines b lines false h = (b ∷ h.0, h.1, ap (onto_line b) h.2)

some_line : (b : ℕ) (text : List ℕ) → IsFinished (b ∷ text) → HasLine (whole_lines (b ∷ text))
some_line b [] done =
    ([], [], one_byte b [] ∙ ap (λ t. cond t ([] ∷ []) (onto_line b [])) (is_end (eqb b 10) done))
some_line b (c ∷ text) done =
    let more = more_lines b (whole_lines (c ∷ text)) (eqb b 10) (some_line c text done) in
    (more.0, more.1, one_byte b (c ∷ text) ∙ more.2)

-- a line behind them is one line more

in_front : (b : ℕ) (line : List ℕ) (lines : List (List ℕ)) (t : Bool) → HasLine lines
    → cond t ([] ∷ (lines ++ line ∷ [])) (onto_line b (lines ++ line ∷ [])) ≡ cond t ([] ∷ lines) (onto_line b lines) ++ line ∷ []
in_front b line lines true h = refl
in_front b line lines false h = subst (λ ls. onto_line b (ls ++ line ∷ []) ≡ onto_line b ls ++ line ∷ []) (sym h.2) refl

line_behind : (text line : List ℕ) → IsFinished text → HoldsNoEnd line → whole_lines (text ++ (line ++ 10 ∷ [])) ≡ whole_lines text ++ line ∷ []
line_behind [] line done no_end = ap all_but_last (before line [] no_end)
line_behind (b ∷ []) line done no_end =
    let last = line ++ 10 ∷ [] in
    let end = is_end (eqb b 10) done in
    one_byte b last ∙ ap (λ t. cond t ([] ∷ whole_lines last) (onto_line b (whole_lines last))) end ∙ ap (λ ls. [] ∷ ls) (ap all_but_last (before line [] no_end))
    ∙ ap (λ ls. ls ++ line ∷ []) (sym (one_byte b [] ∙ ap (λ t. cond t ([] ∷ []) (onto_line b [])) end))
line_behind (b ∷ c ∷ text) line done no_end =
    let rest = c ∷ text in
    one_byte b (rest ++ (line ++ 10 ∷ []))
    ∙ ap (λ ls. cond (eqb b 10) ([] ∷ ls) (onto_line b ls)) (line_behind (c ∷ text) line done no_end)
    ∙ in_front b line (whole_lines rest) (eqb b 10) (some_line c text done) ∙ ap (λ ls. ls ++ line ∷ []) (sym (one_byte b rest))

finished_line : (text line : List ℕ) → IsFinished (text ++ (line ++ 10 ∷ []))
finished_line text line =
    is_unfinished-append text (line ++ 10 ∷ []) (omega (arith, length-append line (10 ∷ []))) ∙ is_unfinished-append line (10 ∷ []) (omega arith)

abbrev kept_of : List ℕ → List (List ℕ)
kept_of text = kept_lines (whole_lines text)

-- and so are more of them, each of which is kept
lines_behind : (text : List ℕ) (lines : List (List ℕ)) → IsFinished text → ArePlain lines
    → IsFinished (text ++ flat_map ended lines) × (kept_of (text ++ flat_map ended lines) ≡ kept_of text ++ lines)
lines_behind text [] done plain =
    (ap is_unfinished (append-nil text) ∙ done, ap kept_of (append-nil text) ∙ sym (append-nil (kept_of text)))
lines_behind text (line ∷ lines) done plain =
    let next = text ++ ended line in
    let same : text ++ flat_map ended (line ∷ lines) ≡ next ++ flat_map ended lines = sym (append_assoc text (ended line) (flat_map ended lines)) in
    let rest = lines_behind next lines (finished_line text line) plain.2 in
    let one : kept_of next ≡ kept_of text ++ line ∷ [] =
    ap kept_lines (line_behind text line done plain.0) ∙ kept_lines-append (whole_lines text) (line ∷ [])
    ∙ ap (λ t. kept_of text ++ cond t [] (line ∷ [])) plain.1 in
    (ap is_unfinished same ∙ rest.0, ap kept_of same ∙ rest.1 ∙ ap (λ ls. ls ++ lines) one ∙ append_assoc (kept_of text) (line ∷ []) lines)

-- the texts of lines

shown_text : (n : ℕ) (lines : List Line) → flat_map (kept_line n) lines ≡ flat_map ended (map (λ line. 32 ∷ made_line n line) lines)
shown_text n [] = refl
shown_text n (line ∷ lines) = ap (λ t. kept_line n line ++ t) (shown_text n lines)

event_piece : (past : History) (e : Entry) → entry_piece past e ≡ flat_map ended (event_lines past e)
event_piece past e =
    let n = length past + 1 in
    ap (λ t. event_text e.event ++ 10 ∷ t) (shown_text n e.lines)
    ∙ sym (append_assoc (event_text e.event) (10 ∷ []) (flat_map ended (map (λ line. 32 ∷ made_line n line) e.lines)))

spaced_text : (lines : List (List ℕ)) → flat_map ended_kept lines ≡ flat_map ended (map (λ line. 32 ∷ line) lines)
spaced_text [] = refl
spaced_text (line ∷ lines) = ap (λ t. ended_kept line ++ t) (spaced_text lines)

lines_awaited : (awaited : Awaited) → awaited_text awaited ≡ flat_map ended (awaited_lines awaited)
lines_awaited awaited =
    ap (λ t. flat_map ended awaited.header ++ t) (spaced_text awaited.lines)
    ∙ sym (flat_map-append ended awaited.header (map (λ line. 32 ∷ line) awaited.lines))

all_plain : (header : Header) (past : History) → ArePlain (journal_lines header past)
all_plain header [] = subst ArePlain (sym (header_whole header)) (are_plain_rows header)
all_plain header (e ∷ past) = are_plain_then (journal_lines header past) (event_lines past e) (all_plain header past) (are_plain_event past e)

last_plain : (first others : List (List ℕ)) → ArePlain (first ++ others) → ArePlain others
last_plain [] others h = h
last_plain (line ∷ first) others h = last_plain first others h.2

-- all lines of a journal

abbrev HasAll : Header → History → List ℕ → Type 0
HasAll header past text = IsFinished text × (kept_of text ≡ journal_lines header past)

pieces_behind : (header : Header) (new past : History) (text : List ℕ) → HasAll header past text → HasAll header (new ++ past) (text ++ pieces_of new past)
pieces_behind header [] past text all = (ap is_unfinished (append-nil text) ∙ all.0, ap kept_of (append-nil text) ∙ all.1)
pieces_behind header (e ∷ new) past text all =
    let before = pieces_behind header new past text all in
    let first = text ++ pieces_of new past in
    let lines = event_lines (new ++ past) e in
    let same : text ++ pieces_of (e ∷ new) past ≡ first ++ flat_map ended lines =
    sym (append_assoc text (pieces_of new past) (entry_piece (new ++ past) e)) ∙ ap (λ t. first ++ t) (event_piece (new ++ past) e) in
    let one = lines_behind first lines before.0 (are_plain_event (new ++ past) e) in
    (ap is_unfinished same ∙ one.0, ap kept_of same ∙ one.1 ∙ ap (λ ls. ls ++ lines) before.1)

mark_finishes : (old : List ℕ) (u : Bool) → is_unfinished old ≡ u → IsFinished (old ++ mark_if u)
mark_finishes old true is = is_unfinished-append old (126 ∷ 10 ∷ []) (omega arith)
mark_finishes old false is = ap is_unfinished (append-nil old) ∙ is

nothing_long : {X : Type 0} (l : List X) → length l ≡ 0 → l ≡ []
nothing_long [] h = refl
nothing_long (x ∷ l) h = absurd (omega (arith, h))

module _ (header : Header) (place : Walk) (old : List ℕ) (kept : kept_of old ++ awaited_lines place.awaited ≡ journal_lines header place.past) where
  -- what is missing of an old journal completes it
  missing_behind : HasAll header place.past (old ++ missing (is_unfinished old) place.awaited)
  missing_behind =
      let u = is_unfinished old in
      let lines = awaited_lines place.awaited in
      let marked = old ++ mark_if u in
      let b = lines_behind marked lines (mark_finishes old u refl) (last_plain (kept_of old) lines (subst ArePlain (sym kept) (all_plain header place.past))) in
      let same : old ++ missing u place.awaited ≡ marked ++ flat_map ended lines =
      ap (λ t. old ++ (mark_if u ++ t)) (lines_awaited place.awaited) ∙ sym (append_assoc old (mark_if u) (flat_map ended lines)) in
      let front = whole_lines-front old (mark_if u) in
      let first : kept_of marked ≡ kept_of old ++ kept_lines front.0 = ap kept_lines front.1 ∙ kept_lines-append (whole_lines old) front.0 in
      let all : kept_of (old ++ missing u place.awaited) ≡ (kept_of old ++ kept_lines front.0) ++ lines = ap kept_of same ∙ b.1 ∙ ap (λ ls. ls ++ lines) first in
      let left = stops_leave_journals header place [] old (missing u place.awaited) [] kept refl in
      let whole : length (journal_lines header place.past) ≡ length (kept_of old) + length lines = ap length (sym kept) ∙ length-append (kept_of old) lines in
      let got : length (kept_of (old ++ missing u place.awaited)) ≡ length (kept_of old) + length (kept_lines front.0) + length lines =
      ap length all ∙ length-append (kept_of old ++ kept_lines front.0) lines ∙ ap (λ n. n + length lines) (length-append (kept_of old) (kept_lines front.0)) in
      let parts : length (journal_lines header place.past) ≡ length (kept_of (old ++ missing u place.awaited)) + length left.0 =
      ap length left.1 ∙ length-append (kept_of (old ++ missing u place.awaited)) left.0 in
      let none : left.0 ≡ [] = nothing_long left.0 (omega (arith, whole, got, parts)) in (
        ap is_unfinished same ∙ b.0,
        sym (left.1 ∙ ap (λ ls. kept_of (old ++ missing u place.awaited) ++ ls) none ∙ append-nil (kept_of (old ++ missing u place.awaited))),
      )

  -- and so is one to which what was missing and all pieces of new events went
  pub whole_journal : (new : History) → kept_of (old ++ (missing (is_unfinished old) place.awaited ++ pieces_of new place.past)) ≡ journal_lines header (new ++ place.past)
  whole_journal new =
      ap kept_of (sym (append_assoc old (missing (is_unfinished old) place.awaited) (pieces_of new place.past)))
      ∙ (pieces_behind header new place.past (old ++ missing (is_unfinished old) place.awaited) missing_behind).1

-- each event has a line
more_events : (header : Header) (later whole : History) → length (journal_lines header whole) + length later ≤ length (journal_lines header (later ++ whole))
more_events header [] whole = omega arith
more_events header (e ∷ later) whole =
    omega (arith, more_events header later whole, length-append (journal_lines header (later ++ whole)) (event_lines (later ++ whole) e))

-- so over a journal with all its lines none of its events is missing
pub none_missing : (header : Header) (past : History) (text : List ℕ) (place : Walk) → kept_of text ≡ journal_lines header past
    → (goes : GoesAgain header past (whole_lines text) place) → goes.whole ≡ past
none_missing header past text place all goes =
    let first : journal_lines header goes.whole ≡ journal_lines header (goes.later ++ goes.whole) ++ goes.rest =
    goes.front ∙ ap (λ ls. ls ++ goes.rest) (all ∙ ap (journal_lines header) goes.first) in
    let sizes = ap length first ∙ length-append (journal_lines header (goes.later ++ goes.whole)) goes.rest in
    let none : goes.later ≡ [] = nothing_long goes.later (omega (arith, sizes, more_events header goes.later goes.whole)) in
    sym (goes.first ∙ ap (λ l. l ++ goes.whole) none)
