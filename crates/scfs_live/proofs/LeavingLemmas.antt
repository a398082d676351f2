-- What a stop leaves of a journal.
use Rattle.std.proofs.Common.{◌≡◌, ◌≢◌, ◌≤◌, ℕ, ◌+◌, List, [], ◌∷◌, ◌++◌, refl, ap, ◌∙◌, sym, subst, Bool, true, false, not, cond, eqb, length, map, append_assoc, append-nil, inl, inr, ◌⊎◌, arith}
use Rattle.std.specs.List.{flat_map}
use Rattle.std.proofs.lemmas.Bool.{eqb-false, eqb-true, ne_eqb}
use Rattle.std.proofs.lemmas.Grind.{flat_map-append}
use Rattle.scfs_base.specs.Pieces.{onto, pieces}
use Rattle.scfs_schedule.specs.Holding.{is_unfinished}
use Rattle.scfs_schedule.specs.Text.{event_text, header_text}
use Rattle.scfs_schedule.specs.declared.types.Header.{Header}
use Rattle.scfs_schedule.specs.declared.types.Line.{Line}
use Rattle.scfs_model.specs.History.{Entry, History}
use Rattle.scfs_live.specs.declared.awaited.Awaited.{Awaited}
use Rattle.scfs_live.specs.Finding.{is_left_out}
use Rattle.scfs_live.specs.GoingOn.{awaited_lines, event_lines, journal_lines, kept_lines}
use Rattle.scfs_live.specs.Journal.{entry_piece, kept_line, pieces_of}
use Rattle.scfs_live.specs.Keeping.{all_but_last, awaited_text, ended, ended_kept, made_line, mark_if, whole_lines}
use Rattle.scfs_live.specs.Leaving.{StopsLeaveJournals}
use Rattle.scfs_live.proofs.KeepingLemmas.{all_but_last-pieces}
use Rattle.scfs_live.proofs.PlainLemmas.{ArePlain, HoldsNoEnd, are_plain_event, are_plain_rows, are_plain_then, header_rows, no_end_then, rows_text}
use Rattle.scfs_live.proofs.SplitLemmas.{is_unfinished-append}

-- a text without a line's end is one piece
alone : (w : List ℕ) → HoldsNoEnd w → pieces 10 w ≡ w ∷ []
alone [] h = refl
alone (b ∷ w) h = ap (λ t. cond t ([] ∷ pieces 10 w) (onto b (pieces 10 w))) (ne_eqb b 10 h.0) ∙ ap (onto b) (alone w h.1)

-- it goes before the first piece of what is behind it
pub before : (w rest : List ℕ) → HoldsNoEnd w → pieces 10 (w ++ 10 ∷ rest) ≡ w ∷ pieces 10 rest
before [] rest h = refl
before (b ∷ w) rest h =
    ap (λ t. cond t ([] ∷ pieces 10 (w ++ 10 ∷ rest)) (onto b (pieces 10 (w ++ 10 ∷ rest)))) (ne_eqb b 10 h.0) ∙ ap (onto b) (before w rest h.1)

front_of : (x y : List ℕ) → HoldsNoEnd (x ++ y) → HoldsNoEnd x
front_of [] y h = tt
front_of (b ∷ x) y h = (h.0, front_of x y h.1)

no_whole_lines : (w : List ℕ) → HoldsNoEnd w → whole_lines w ≡ []
no_whole_lines w h = ap all_but_last (alone w h)

first_whole_line : (w rest : List ℕ) → HoldsNoEnd w → whole_lines (w ++ 10 ∷ rest) ≡ w ∷ whole_lines rest
first_whole_line w rest h = ap all_but_last (before w rest h) ∙ all_but_last-pieces w rest

-- two partings of one text: one front is a front of the other
fronts : (a b c d : List ℕ) → a ++ b ≡ c ++ d → ((x : List ℕ) × (a ≡ c ++ x)) ⊎ ((x : List ℕ) × (c ≡ a ++ x) × (b ≡ x ++ d))
fronts [] b c d is = inr (c, refl, is)
fronts (n ∷ a) b [] d is = inl (n ∷ a, refl)
fronts (n ∷ a) b (m ∷ c) d is =
    let head : n ≡ m = cc in
    let tail : a ++ b ≡ c ++ d = cc in
    elim (fronts a b c d tail) [
      | inl p ↦ inl (p.0, ap (λ l. n ∷ l) p.1 ∙ ap (λ k. k ∷ (c ++ p.0)) head)
      | inr p ↦ inr (p.0, ap (λ k. k ∷ c) (sym head) ∙ ap (λ l. n ∷ l) p.1, p.2)
    ]

-- the whole lines of a front of a text of lines are the first of them
record Cut (lines : List (List ℕ)) (front : List ℕ) : Type 0 where
  first : List (List ℕ)
  others : List (List ℕ)
  all : lines ≡ first ++ others
  whole : whole_lines front ≡ first

cut_within : (line : List ℕ) (lines : List (List ℕ)) (front x : List ℕ) → HoldsNoEnd line → line ≡ front ++ x → Cut (line ∷ lines) front
cut_within line lines front x no_end is = record {
  first = [];
  others = line ∷ lines;
  all = refl;
  whole = no_whole_lines front (front_of front x (subst HoldsNoEnd is no_end));
}

cut_behind : (line : List ℕ) (lines : List (List ℕ)) (front x back : List ℕ) → HoldsNoEnd line → front ≡ line ++ x → 10 ∷ flat_map ended lines ≡ x ++ back
    → ((rest : List ℕ) → flat_map ended lines ≡ rest ++ back → Cut lines rest) → Cut (line ∷ lines) front
cut_behind line lines front [] back no_end is more further =
    record { first = []; others = line ∷ lines; all = refl; whole = no_whole_lines front (subst HoldsNoEnd (sym (is ∙ append-nil line)) no_end) }
cut_behind line lines front (n ∷ x) back no_end is more further =
    let end : n ≡ 10 = cc in
    let rest : flat_map ended lines ≡ x ++ back = cc in
    let c = further x rest in
    record {
      first = line ∷ c.first;
      others = c.others;
      all = ap (λ ls. line ∷ ls) c.all;
      whole = ap whole_lines (is ∙ ap (λ k. line ++ k ∷ x) end) ∙ first_whole_line line x no_end ∙ ap (λ ls. line ∷ ls) c.whole;
    }

cut_text : (lines : List (List ℕ)) (front back : List ℕ) → ArePlain lines → flat_map ended lines ≡ front ++ back → Cut lines front
cut_text [] [] back plain is = record { first = []; others = []; all = refl; whole = refl }
cut_text [] (n ∷ front) back plain is = cc
cut_text (line ∷ lines) front back plain is =
    let parts : line ++ (10 ∷ flat_map ended lines) ≡ front ++ back = sym (append_assoc line (10 ∷ []) (flat_map ended lines)) ∙ is in
    elim (fronts line (10 ∷ flat_map ended lines) front back parts) [
      | inl p ↦ cut_within line lines front p.0 plain.0 p.1
      | inr p ↦ cut_behind line lines front p.0 back plain.0 p.1 p.2 (λ rest more. cut_text lines rest back plain.2 more)
    ]

-- a text is its whole lines, and then bytes that hold no line's end

HoldNoEnds : List (List ℕ) → Type 0
HoldNoEnds [] = Unit {0}
HoldNoEnds (line ∷ lines) = HoldsNoEnd line × HoldNoEnds lines

record Parts (text : List ℕ) : Type 0 where
  lines : List (List ℕ)
  rest : List ℕ
  no_ends : HoldNoEnds lines
  no_end : HoldsNoEnd rest
  is : text ≡ flat_map ended lines ++ rest

with_byte : (b : ℕ) (text : List ℕ) → b ≢ 10 → (lines : List (List ℕ)) (rest : List ℕ) → HoldNoEnds lines → HoldsNoEnd rest → text ≡ flat_map ended lines ++ rest
    → Parts (b ∷ text)
unfolding HoldNoEnds
with_byte b text other [] rest no_ends no_end is = record { lines = []; rest = b ∷ rest; no_ends = tt; no_end = (other, no_end); is = ap (λ l. b ∷ l) is }
with_byte b text other (line ∷ lines) rest no_ends no_end is =
    record { lines = (b ∷ line) ∷ lines; rest = rest; no_ends = ((other, no_ends.0), no_ends.1); no_end = no_end; is = ap (λ l. b ∷ l) is }

parts_more : (b : ℕ) (text : List ℕ) (t : Bool) → eqb b 10 ≡ t → Parts text → Parts (b ∷ text)
unfolding HoldNoEnds
parts_more b text true end p = record {
  lines = [] ∷ p.lines;
  rest = p.rest;
  no_ends = (tt, p.no_ends);
  no_end = p.no_end;
  is = ap (λ k. k ∷ text) (eqb-true b 10 end) ∙ ap (λ l. 10 ∷ l) p.is;
}
parts_more b text false other p = with_byte b text (eqb-false b 10 other) p.lines p.rest p.no_ends p.no_end p.is

parts : (text : List ℕ) → Parts text
unfolding HoldNoEnds
parts [] = record { lines = []; rest = []; no_ends = tt; no_end = tt; is = refl }
parts (b ∷ text) = parts_more b text (eqb b 10) refl (parts text)

whole_lines-append : (lines : List (List ℕ)) (rest : List ℕ) → HoldNoEnds lines → whole_lines (flat_map ended lines ++ rest) ≡ lines ++ whole_lines rest
unfolding HoldNoEnds
whole_lines-append [] rest h = refl
whole_lines-append (line ∷ lines) rest h =
    let more = flat_map ended lines in
    ap whole_lines (append_assoc (line ++ 10 ∷ []) more rest ∙ append_assoc line (10 ∷ []) (more ++ rest)) ∙ first_whole_line line (more ++ rest) h.0
    ∙ ap (λ ls. line ∷ ls) (whole_lines-append lines rest h.1)

-- bytes that hold no line's end are unfinished, unless there are none
unfinished_rest : (rest : List ℕ) → HoldsNoEnd rest → 1 ≤ length rest → is_unfinished rest ≡ true
unfinished_rest [] h some = absurd (omega (arith, some))
unfinished_rest (b ∷ []) h some = ap not (ne_eqb b 10 h.0)
unfinished_rest (b ∷ c ∷ rest) h some = unfinished_rest (c ∷ rest) h.1 (omega arith)

true_false : (b : Bool) → b ≡ true → b ≡ false → ⊥
true_false b t f = cc

no_rest : (early rest : List ℕ) → HoldsNoEnd rest → is_unfinished (early ++ rest) ≡ false → rest ≡ []
no_rest early [] h is = refl
no_rest early (b ∷ rest) h is =
    let some : 1 ≤ length (b ∷ rest) = omega arith in
    absurd (true_false (is_unfinished (early ++ b ∷ rest)) (is_unfinished-append early (b ∷ rest) some ∙ unfinished_rest (b ∷ rest) h some) is)

-- the lines that are not left out

by_mark : (line : List ℕ) (first others : List (List ℕ)) (t : Bool) → cond t (first ++ others) (line ∷ (first ++ others)) ≡ cond t first (line ∷ first) ++ others
by_mark line first others true = refl
by_mark line first others false = refl

pub kept_lines-append : (first others : List (List ℕ)) → kept_lines (first ++ others) ≡ kept_lines first ++ kept_lines others
kept_lines-append [] others = refl
kept_lines-append (line ∷ first) others =
    ap (λ ls. cond (is_left_out line) ls (line ∷ ls)) (kept_lines-append first others) ∙ by_mark line (kept_lines first) (kept_lines others) (is_left_out line)

kept_lines-plain : (lines : List (List ℕ)) → ArePlain lines → kept_lines lines ≡ lines
kept_lines-plain [] h = refl
kept_lines-plain (line ∷ lines) h = ap (λ b. cond b (kept_lines lines) (line ∷ kept_lines lines)) h.1 ∙ ap (λ ls. line ∷ ls) (kept_lines-plain lines h.2)

marked : (rest : List ℕ) → is_left_out (rest ++ 126 ∷ []) ≡ true
marked [] = refl
marked (b ∷ []) = refl
marked (b ∷ c ∷ rest) = marked (c ∷ rest)

plain_front : (first others : List (List ℕ)) → ArePlain (first ++ others) → ArePlain first
plain_front [] others h = tt
plain_front (line ∷ first) others h = (h.0, h.1, plain_front first others h.2)

plain_behind : (first others : List (List ℕ)) → ArePlain (first ++ others) → ArePlain others
plain_behind [] others h = h
plain_behind (line ∷ first) others h = plain_behind first others h.2

-- the text of lines

new_lines : (new old : History) → List (List ℕ)
new_lines [] old = []
new_lines (e ∷ new) old = new_lines new old ++ event_lines (new ++ old) e

journal_new : (header : Header) (new old : History) → journal_lines header (new ++ old) ≡ journal_lines header old ++ new_lines new old
unfolding new_lines
journal_new header [] old = sym (append-nil (journal_lines header old))
journal_new header (e ∷ new) old =
    ap (λ ls. ls ++ event_lines (new ++ old) e) (journal_new header new old) ∙ append_assoc (journal_lines header old) (new_lines new old) (event_lines (new ++ old) e)

made_text : (n : ℕ) (lines : List Line) → flat_map (kept_line n) lines ≡ flat_map ended (map (λ line. 32 ∷ made_line n line) lines)
made_text n [] = refl
made_text n (line ∷ lines) = ap (λ t. kept_line n line ++ t) (made_text n lines)

piece_text : (past : History) (e : Entry) → entry_piece past e ≡ flat_map ended (event_lines past e)
piece_text past e =
    let n = length past + 1 in
    ap (λ t. event_text e.event ++ 10 ∷ t) (made_text n e.lines)
    ∙ sym (append_assoc (event_text e.event) (10 ∷ []) (flat_map ended (map (λ line. 32 ∷ made_line n line) e.lines)))

pieces_text : (new old : History) → pieces_of new old ≡ flat_map ended (new_lines new old)
unfolding new_lines
pieces_text [] old = refl
pieces_text (e ∷ new) old =
    ap (λ t. t ++ entry_piece (new ++ old) e) (pieces_text new old) ∙ ap (λ t. flat_map ended (new_lines new old) ++ t) (piece_text (new ++ old) e)
    ∙ sym (flat_map-append ended (new_lines new old) (event_lines (new ++ old) e))

kept_text : (lines : List (List ℕ)) → flat_map ended_kept lines ≡ flat_map ended (map (λ line. 32 ∷ line) lines)
kept_text [] = refl
kept_text (line ∷ lines) = ap (λ t. ended_kept line ++ t) (kept_text lines)

awaited_text-lines : (awaited : Awaited) → awaited_text awaited ≡ flat_map ended (awaited_lines awaited)
awaited_text-lines awaited =
    ap (λ t. flat_map ended awaited.header ++ t) (kept_text awaited.lines)
    ∙ sym (flat_map-append ended awaited.header (map (λ line. 32 ∷ line) awaited.lines))

-- what is left behind a text of the lines that are to come

record Leaves (text front : List ℕ) (lines : List (List ℕ)) : Type 0 where
  more : List (List ℕ)
  later : List (List ℕ)
  all : lines ≡ more ++ later
  kept : kept_lines (whole_lines (text ++ front)) ≡ kept_lines (whole_lines text) ++ more

-- the whole lines of a front of a text are the first of its own
pub whole_lines-front : (text more : List ℕ) → (others : List (List ℕ)) × (whole_lines (text ++ more) ≡ whole_lines text ++ others)
whole_lines-front text more =
    let p = parts text in
    let whole : whole_lines text ≡ p.lines =
    ap whole_lines p.is ∙ whole_lines-append p.lines p.rest p.no_ends ∙ ap (λ ls. p.lines ++ ls) (no_whole_lines p.rest p.no_end) ∙ append-nil p.lines in (
      whole_lines (p.rest ++ more),
      ap (λ t. whole_lines (t ++ more)) p.is ∙ ap whole_lines (append_assoc (flat_map ended p.lines) p.rest more)
          ∙ whole_lines-append p.lines (p.rest ++ more) p.no_ends ∙ ap (λ ls. ls ++ whole_lines (p.rest ++ more)) (sym whole),
    )

-- behind the parts of a text
leaves_parts : (text front : List ℕ) (lines : List (List ℕ)) (p : Parts text) (more later : List (List ℕ)) → lines ≡ more ++ later
    → kept_lines (whole_lines (p.rest ++ front)) ≡ more → Leaves text front lines
leaves_parts text front lines p more later all kept =
    let whole : whole_lines text ≡ p.lines =
    ap whole_lines p.is ∙ whole_lines-append p.lines p.rest p.no_ends ∙ ap (λ ls. p.lines ++ ls) (no_whole_lines p.rest p.no_end) ∙ append-nil p.lines in
    let longer : whole_lines (text ++ front) ≡ p.lines ++ whole_lines (p.rest ++ front) =
    ap (λ t. whole_lines (t ++ front)) p.is ∙ ap whole_lines (append_assoc (flat_map ended p.lines) p.rest front) ∙ whole_lines-append p.lines (p.rest ++ front) p.no_ends in
    record {
      more = more;
      later = later;
      all = all;
      kept = ap kept_lines longer ∙ kept_lines-append p.lines (whole_lines (p.rest ++ front)) ∙ ap (λ ls. kept_lines p.lines ++ ls) kept
          ∙ ap (λ ls. kept_lines ls ++ more) (sym whole);
    }

leaves_whole : (text front back : List ℕ) (lines : List (List ℕ)) → ArePlain lines → is_unfinished text ≡ false → flat_map ended lines ≡ front ++ back
    → Leaves text front lines
leaves_whole text front back lines plain whole is =
    let p = parts text in
    let none : p.rest ≡ [] = no_rest (flat_map ended p.lines) p.rest p.no_end (ap is_unfinished (sym p.is) ∙ whole) in
    let c = cut_text lines front back plain is in
    leaves_parts text front lines p c.first c.others c.all
    (ap (λ r. kept_lines (whole_lines (r ++ front))) none ∙ ap kept_lines c.whole ∙ kept_lines-plain c.first (plain_front c.first c.others (subst ArePlain c.all plain)))

leaves_marked : (text front back : List ℕ) (lines : List (List ℕ)) → ArePlain lines → (126 ∷ 10 ∷ []) ++ flat_map ended lines ≡ front ++ back → Leaves text front lines
leaves_marked text [] back lines plain is =
    let p = parts text in
    leaves_parts text [] lines p [] lines refl (ap (λ r. kept_lines (whole_lines r)) (append-nil p.rest) ∙ ap kept_lines (no_whole_lines p.rest p.no_end))
leaves_marked text (x ∷ []) back lines plain is =
    let p = parts text in
    let mark : 126 ≡ x = cc in
    let not_end : 126 ≢ 10 = eqb-false 126 10 refl in
    let same : p.rest ++ x ∷ [] ≡ p.rest ++ 126 ∷ [] = ap (λ b. p.rest ++ b ∷ []) (sym mark) in
    leaves_parts text (x ∷ []) lines p [] lines refl
    (ap (λ r. kept_lines (whole_lines r)) same ∙ ap kept_lines (no_whole_lines (p.rest ++ 126 ∷ []) (no_end_then p.rest (126 ∷ []) p.no_end (not_end, tt))))
leaves_marked text (x ∷ y ∷ front) back lines plain is =
    let p = parts text in
    let mark : 126 ≡ x = cc in
    let end : 10 ≡ y = cc in
    let rest : flat_map ended lines ≡ front ++ back = cc in
    let not_end : 126 ≢ 10 = eqb-false 126 10 refl in
    let c = cut_text lines front back plain rest in
    let line = p.rest ++ 126 ∷ [] in
    let same : p.rest ++ x ∷ y ∷ front ≡ line ++ 10 ∷ front =
    ap (λ b. p.rest ++ b ∷ y ∷ front) (sym mark) ∙ ap (λ b. p.rest ++ 126 ∷ b ∷ front) (sym end) ∙ sym (append_assoc p.rest (126 ∷ []) (10 ∷ front)) in
    leaves_parts text (x ∷ y ∷ front) lines p c.first c.others c.all
    (ap (λ r. kept_lines (whole_lines r)) same ∙ ap kept_lines (first_whole_line line front (no_end_then p.rest (126 ∷ []) p.no_end (not_end, tt)))
    ∙ ap (λ b. cond b (kept_lines (whole_lines front)) (line ∷ kept_lines (whole_lines front))) (marked p.rest)
    ∙ ap kept_lines c.whole ∙ kept_lines-plain c.first (plain_front c.first c.others (subst ArePlain c.all plain)))

leaves : (text front back : List ℕ) (lines : List (List ℕ)) (u : Bool) → ArePlain lines → is_unfinished text ≡ u → mark_if u ++ flat_map ended lines ≡ front ++ back
    → Leaves text front lines
leaves text front back lines false plain unfinished is = leaves_whole text front back lines plain unfinished is
leaves text front back lines true plain unfinished is = leaves_marked text front back lines plain is

-- the lines of a journal are plain

hold_no_ends : (lines : List (List ℕ)) → ArePlain lines → HoldNoEnds lines
unfolding HoldNoEnds
hold_no_ends [] h = tt
hold_no_ends (line ∷ lines) h = (h.0, hold_no_ends lines h.2)

-- those of a header
pub header_whole : (header : Header) → whole_lines (header_text header) ≡ header_rows header
header_whole header =
    let rows = header_rows header in
    ap whole_lines (rows_text header ∙ sym (append-nil (flat_map ended rows))) ∙ whole_lines-append rows [] (hold_no_ends rows (are_plain_rows header))
    ∙ append-nil rows

header_plain : (header : Header) → ArePlain (whole_lines (header_text header))
header_plain header = subst ArePlain (sym (header_whole header)) (are_plain_rows header)

journal_plain : (header : Header) (past : History) → ArePlain (journal_lines header past)
journal_plain header [] = header_plain header
journal_plain header (e ∷ past) = are_plain_then (journal_lines header past) (event_lines past e) (journal_plain header past) (are_plain_event past e)

pub stops_leave_journals : StopsLeaveJournals
stops_leave_journals header place new old front back kept is =
    let past = place.past in
    let awaited = awaited_lines place.awaited in
    let new_ones = new_lines new past in
    let kept_ones = kept_lines (whole_lines old) in
    let lines = awaited ++ new_ones in
    let journal : journal_lines header (new ++ past) ≡ kept_ones ++ lines =
    journal_new header new past ∙ ap (λ ls. ls ++ new_ones) (sym kept) ∙ append_assoc kept_ones awaited new_ones in
    let text : mark_if (is_unfinished old) ++ flat_map ended lines ≡ front ++ back =
    ap (λ t. mark_if (is_unfinished old) ++ t)
    (flat_map-append ended awaited new_ones ∙ ap (λ t. t ++ flat_map ended new_ones) (sym (awaited_text-lines place.awaited))
    ∙ ap (λ t. awaited_text place.awaited ++ t) (sym (pieces_text new past)))
    ∙ sym (append_assoc (mark_if (is_unfinished old)) (awaited_text place.awaited) (pieces_of new past)) ∙ is in
    let l = leaves old front back lines (is_unfinished old) (plain_behind kept_ones lines (subst ArePlain journal (journal_plain header (new ++ past)))) refl text in
    (l.later, journal ∙ ap (λ ls. kept_ones ++ ls) l.all ∙ sym (append_assoc kept_ones l.more l.later) ∙ ap (λ ls. ls ++ l.later) (sym l.kept))
