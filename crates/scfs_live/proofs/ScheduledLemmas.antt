-- A journal is read as a schedule.
use Rattle.std.proofs.Common.{◌≡◌, ◌≤◌, ℕ, ◌+◌, List, [], ◌∷◌, ◌++◌, refl, ap, ◌∙◌, sym, subst, Bool, true, false, cond, eqb, Some, None, Result, Ok, Err, length, map, take, append_assoc, append-nil}
use Rattle.std.proofs.lemmas.Bool.{eqb-true, le-ltb, ltb-false}
use Rattle.std.proofs.lemmas.Grind.{flat_map-append}
use Rattle.std.proofs.lemmas.List.{take_all}
use Rattle.std.specs.Prelude.{codes}
use Rattle.std.specs.Fmt.{decimal}
use Rattle.std.specs.List.{flat_map}
use Rattle.std.specs.Str.{bytes_eq}
use Rattle.scfs_base.specs.Limits.{input_limit, line_limit}
use Rattle.scfs_base.specs.Pieces.{pieces}
use Rattle.scfs_schedule.specs.Grammar.{IsHeader, end_said, event_named, event_of, event_said, said_by, words_of}
use Rattle.scfs_schedule.specs.Reading.{after, is_too_long, read, read_lines, with_event, with_header}
use Rattle.scfs_schedule.specs.Text.{event_line, event_text, header_text}
use Rattle.scfs_schedule.specs.Written.{AreAgents, schedule_text}
use Rattle.scfs_schedule.specs.declared.types.BadKind.{BadKind}
use Rattle.scfs_schedule.specs.declared.types.BadKind.TheVariants as kinds
use Rattle.scfs_schedule.specs.declared.types.Ending.TheVariants as endings
use Rattle.scfs_schedule.specs.declared.types.Event.{Event}
use Rattle.scfs_schedule.specs.declared.types.Header.{Header}
use Rattle.scfs_schedule.specs.declared.types.Line.{Line}
use Rattle.scfs_schedule.specs.declared.types.Mode.{Mode}
use Rattle.scfs_schedule.specs.declared.types.Place.TheVariants as places
use Rattle.scfs_schedule.specs.declared.types.Said.TheVariants as saids
use Rattle.scfs_schedule.specs.declared.types.Which.TheVariants as whichs
use Rattle.scfs_schedule.proofs.ReadingLemmas.{line_first}
use Rattle.scfs_schedule.proofs.WholeLemmas.{header_next}
use Rattle.scfs_model.specs.History.{History, events_then}
use Rattle.scfs_live.specs.Finding.{event_read, is_left_out}
use Rattle.scfs_live.specs.GoingOn.{AreDone, event_lines, journal_lines, kept_lines}
use Rattle.scfs_live.specs.Keeping.{ended, made_line}
use Rattle.scfs_live.specs.Limits.{journal_limit}
use Rattle.scfs_live.specs.Reopened.{old_lines}
use Rattle.scfs_live.specs.Reopening.{Walk, Walks, unwalked}
use Rattle.scfs_live.specs.Scheduled.{JournalsAreSchedules, schedule_of, unspaced}
use Rattle.scfs_live.proofs.DoneLemmas.{walked_are_done}
use Rattle.scfs_live.proofs.FrontLemmas.{AreShort, are_short_whole}
use Rattle.scfs_live.proofs.GoingOnLemmas.{spaced}
use Rattle.scfs_live.proofs.KeptLemmas.{bytes_eq-true, walked_are_kept}
use Rattle.scfs_live.proofs.LeavingLemmas.{before, header_whole}
use Rattle.scfs_live.proofs.PlainLemmas.{agent_row, agent_rows, header_rows, plain_event_text, rows_text}

-- the lines that do not begin with a space

by_space : (byte : ℕ) (line : List ℕ) (first others : List (List ℕ)) (t : Bool)
    → cond t (first ++ others) ((byte ∷ line) ∷ (first ++ others)) ≡ cond t first ((byte ∷ line) ∷ first) ++ others
by_space byte line first others true = refl
by_space byte line first others false = refl

unspaced-append : (first others : List (List ℕ)) → unspaced (first ++ others) ≡ unspaced first ++ unspaced others
unspaced-append [] others = refl
unspaced-append ([] ∷ first) others = ap (λ ls. [] ∷ ls) (unspaced-append first others)
unspaced-append ((byte ∷ line) ∷ first) others =
    ap (λ ls. cond (eqb byte 32) ls ((byte ∷ line) ∷ ls)) (unspaced-append first others) ∙ by_space byte line (unspaced first) (unspaced others) (eqb byte 32)

unspaced-spaced : (lines : List (List ℕ)) → unspaced (spaced lines) ≡ []
unspaced-spaced [] = refl
unspaced-spaced (line ∷ lines) = unspaced-spaced lines

unspaced-made : (n : ℕ) (lines : List Line) → unspaced (map (λ line. 32 ∷ made_line n line) lines) ≡ []
unspaced-made n [] = refl
unspaced-made n (line ∷ lines) = unspaced-made n lines

not_both : (read : Result Event BadKind) (event : Event) (kind : BadKind) → read ≡ Ok event → read ≡ Err kind → ⊥
not_both read event kind ok err = cc

-- the line of an event does not
unspaced-event : (header : Header) (event : Event) (line : List ℕ) (lines : List (List ℕ)) → event_read header line ≡ Ok event
    → unspaced (line ∷ lines) ≡ line ∷ unspaced lines
unspaced-event header event [] lines is = refl
unspaced-event header event (byte ∷ rest) lines is = by_test (eqb byte 32) refl where
  by_test : (t : Bool) → eqb byte 32 ≡ t → cond (eqb byte 32) (unspaced lines) ((byte ∷ rest) ∷ unspaced lines) ≡ (byte ∷ rest) ∷ unspaced lines
  by_test false other = ap (λ b. cond b (unspaced lines) ((byte ∷ rest) ∷ unspaced lines)) other
  by_test true space =
      let read : event_read header (32 ∷ rest) ≡ Ok event = subst (λ b. event_read header (b ∷ rest) ≡ Ok event) (eqb-true byte 32 space) is in
      absurd (not_both (event_read header (32 ∷ rest)) event kinds.Word read refl)

unspaced-agents : (number : ℕ) (agents : List (Mode × List ℕ)) (lines : List (List ℕ))
    → unspaced (agent_rows number agents ++ lines) ≡ agent_rows number agents ++ unspaced lines
unfolding agent_row
unspaced-agents number [] lines = refl
unspaced-agents number (agent ∷ agents) lines = ap (λ ls. agent_row number agent ∷ ls) (unspaced-agents (number + 1) agents lines)

unspaced-header : (header : Header) → unspaced (header_rows header) ≡ header_rows header
unspaced-header header =
    ap (λ ls. codes "scfs 1" ∷ (codes "f " ++ decimal header.f) ∷ (codes "lease " ++ decimal header.lease) ∷ (codes "stale " ++ decimal header.stale) ∷ ls) (unspaced-agents 0 header.agents (codes "begin" ∷ []))

-- the lines of a history's events, in order
abbrev texts_then : History → List (List ℕ) → List (List ℕ)
texts_then [] rest = rest
texts_then (e ∷ past) rest = texts_then past (event_text e.event ∷ rest)

unspaced-journal : (header : Header) (past : History) (rest : List (List ℕ)) → AreDone header past
    → unspaced (journal_lines header past) ++ rest ≡ header_rows header ++ texts_then past rest
unspaced-journal header [] rest done = ap (λ ls. unspaced ls ++ rest) (header_whole header) ∙ ap (λ ls. ls ++ rest) (unspaced-header header)
unspaced-journal header (e ∷ past) rest done =
    let lines = journal_lines header past in
    let made = map (λ line. 32 ∷ made_line (length past + 1) line) e.lines in
    let one : unspaced (event_lines past e) ≡ event_text e.event ∷ [] =
    unspaced-event header e.event (event_text e.event) made done.0 ∙ ap (λ ls. event_text e.event ∷ ls) (unspaced-made (length past + 1) e.lines) in
    ap (λ ls. ls ++ rest) (unspaced-append lines (event_lines past e)) ∙ append_assoc (unspaced lines) (unspaced (event_lines past e)) rest
    ∙ ap (λ ls. unspaced lines ++ (ls ++ rest)) one ∙ unspaced-journal header past (event_text e.event ∷ rest) done.3

-- these lines as text
texts_text : (past : History) (events : List Event) → flat_map ended (texts_then past (map event_text events)) ≡ flat_map event_line (events_then past events)
texts_text [] [] = refl
texts_text [] (event ∷ events) = ap (λ t. event_line event ++ t) (texts_text [] events)
texts_text (e ∷ past) events = texts_text past (e.event ∷ events)

module _ (header : Header) (lines : List (List ℕ)) (place : Walk) (walks : Walks header (unwalked header) lines place) (whole : place.awaited.header ≡ []) where
  unspaced_lines : unspaced (kept_lines lines) ≡ header_rows header ++ texts_then place.past []
  unspaced_lines =
      let kept = kept_lines lines in
      let waiting = spaced place.awaited.lines in
      let all : kept ++ waiting ≡ journal_lines header place.past =
      ap (λ ls. kept ++ (ls ++ waiting)) (sym whole) ∙ walked_are_kept header lines place walks in
      sym (append-nil (unspaced kept)) ∙ ap (λ ls. unspaced kept ++ ls) (sym (unspaced-spaced place.awaited.lines)) ∙ sym (unspaced-append kept waiting)
      ∙ ap unspaced all ∙ sym (append-nil (unspaced (journal_lines header place.past)))
      ∙ unspaced-journal header place.past [] (walked_are_done header lines place walks)

  schedule_is : schedule_of lines ≡ schedule_text header (events_then place.past [])
  schedule_is =
      let texts = texts_then place.past [] in
      ap (λ ls. flat_map ended ls ++ codes "end\n") unspaced_lines
      ∙ ap (λ t. t ++ codes "end\n") (flat_map-append ended (header_rows header) texts)
      ∙ append_assoc (flat_map ended (header_rows header)) (flat_map ended texts) (codes "end\n")
      ∙ ap (λ t. t ++ (flat_map ended texts ++ codes "end\n")) (sym (rows_text header))
      ∙ ap (λ t. header_text header ++ (t ++ codes "end\n")) (texts_text place.past [])

-- none of the lines is too long

short_choice : (line : List ℕ) (lines : List (List ℕ)) (t : Bool) → is_too_long line ≡ false → AreShort lines → AreShort (cond t lines (line ∷ lines))
short_choice line lines true short others = others
short_choice line lines false short others = (short, others)

short_kept : (lines : List (List ℕ)) → AreShort lines → AreShort (kept_lines lines)
short_kept [] short = tt
short_kept (line ∷ lines) short = short_choice line (kept_lines lines) (is_left_out line) short.0 (short_kept lines short.1)

short_unspaced : (lines : List (List ℕ)) → AreShort lines → AreShort (unspaced lines)
short_unspaced [] short = tt
short_unspaced ([] ∷ lines) short = (short.0, short_unspaced lines short.1)
short_unspaced ((byte ∷ line) ∷ lines) short = short_choice (byte ∷ line) (unspaced lines) (eqb byte 32) short.0 (short_unspaced lines short.1)

short_behind : (first others : List (List ℕ)) → AreShort (first ++ others) → AreShort others
short_behind [] others short = short
short_behind (line ∷ first) others short = short_behind first others short.1

-- each event is read again from its line, which is not too long
abbrev AreReadable : Header → List Event → Type 0
AreReadable header [] = Unit {0}
AreReadable header (event ∷ events) =
    (event_read header (event_text event) ≡ Ok event) × (length (event_text event) ≤ line_limit) × AreReadable header events

-- an event's line among those of a history and of later events
line_short : (past : History) (front : List (List ℕ)) (line : List ℕ) (rest : List (List ℕ)) → AreShort (texts_then past (front ++ line ∷ rest))
    → length line ≤ line_limit
line_short [] front line rest short = ltb-false line_limit (length line) (short_behind front (line ∷ rest) short).0
line_short (e ∷ past) front line rest short = line_short past (event_text e.event ∷ front) line rest short

readable : (header : Header) (past : History) (events : List Event) → AreDone header past → AreShort (texts_then past (map event_text events))
    → AreReadable header events → AreReadable header (events_then past events)
readable header [] events done short are = are
readable header (e ∷ past) events done short are =
    readable header past (e.event ∷ events) done.3 short (done.0, line_short past [] (event_text e.event) (map event_text events) short, are)

-- the line of an event says it
says_event : (header : Header) (words : List (List ℕ)) (event : Event) → event_of header words ≡ Ok event → event_said false header words ≡ saids.Says event
says_event header [] event is = cc
says_event header (word ∷ words) event is = by_end (bytes_eq word (codes "end")) refl where
  by_end : (t : Bool) → bytes_eq word (codes "end") ≡ t → cond t (end_said words) (said_by (event_named header word words) saids.Says) ≡ saids.Says event
  by_end false other = ap (λ r. said_by r saids.Says) is
  by_end true same =
      let read : event_named header (codes "end") words ≡ Ok event =
      ap (λ w. event_named header w words) (sym (bytes_eq-true word (codes "end") same)) ∙ is in
      absurd (not_both (event_named header (codes "end") words) event kinds.Word read refl)

-- events are read
events_read : (header : Header) (n : ℕ) (events : List Event) → AreReadable header events
    → read_lines false false (places.Events header) n (pieces 10 (flat_map event_line events ++ codes "end\n"))
    ≡ record { header = None; events = events; ending = endings.Ended }
events_read header n [] are = refl
events_read header n (event ∷ events) are =
    let rest = flat_map event_line events ++ codes "end\n" in
    let line = event_text event in
    ap (λ t. read_lines false false (places.Events header) n (pieces 10 t)) (append_assoc (event_line event) (flat_map event_line events) (codes "end\n")
    ∙ append_assoc line (10 ∷ []) rest)
    ∙ ap (read_lines false false (places.Events header) n) (before line rest (plain_event_text event).no_end)
    ∙ line_first false false (places.Events header) n line rest are.1
    ∙ ap (λ x. after x (places.Events header) (n + 1) (λ p. read_lines false false p (n + 1) (pieces 10 rest))) (says_event header (words_of line) event are.0)
    ∙ ap (with_event event) (events_read header (n + 1) events are.2)

schedule_read : (header : Header) (events : List Event) → IsHeader header → AreAgents header.agents → AreReadable header events
    → length (schedule_text header events) ≤ input_limit
    → read false (schedule_text header events) ≡ record { header = Some header; events = events; ending = endings.Ended }
schedule_read header events is agents are few =
    let text = schedule_text header events in
    ap (λ b. read_lines false b places.Version 0 (pieces 10 (take input_limit text))) (le-ltb input_limit (length text) few)
    ∙ ap (λ t. read_lines false false places.Version 0 (pieces 10 t)) (take_all input_limit text few)
    ∙ header_next false false header (flat_map event_line events ++ codes "end\n") is agents
    ∙ ap (with_header header) (events_read header (length header.agents + 5) events are)

pub journals_are_schedules : JournalsAreSchedules
journals_are_schedules header text place is agents within walks whole few =
    let lines = (old_lines text).lines in
    let same = schedule_is header lines place walks whole in
    let short = short_unspaced (kept_lines lines) (short_kept lines (are_short_whole journal_limit whichs.Journal text within)) in
    let texts = short_behind (header_rows header) (texts_then place.past []) (subst AreShort (unspaced_lines header lines place walks whole) short) in
    let events = events_then place.past [] in
    ap (read false) same
    ∙ schedule_read header events is agents (readable header place.past [] (walked_are_done header lines place walks) texts tt)
    (subst (λ t. length t ≤ input_limit) same few)
