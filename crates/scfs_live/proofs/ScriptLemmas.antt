-- The events of a script are read again from their lines.
use Rattle.std.proofs.Common.{◌≡◌, ℕ, ◌+◌, List, [], ◌∷◌, refl, subst, Bool, true, false, ◌&&◌, not, cond, Some, None, Result, Ok, Err}
use Rattle.std.specs.Prelude.{codes, nat_lt, take, length}
use Rattle.std.specs.Str.{bytes_eq}
use Rattle.scfs_anchor.specs.Tree.{Each}
use Rattle.scfs_base.specs.Limits.{input_limit}
use Rattle.scfs_base.specs.Pieces.{pieces}
use Rattle.scfs_schedule.specs.Grammar.{agent_line, agents_said, begin_said, end_said, event_named, event_of, event_said, header_number, is_script_word, said_by, said_of, words_of}
use Rattle.scfs_schedule.specs.Reading.{Read, after, bad_line, is_too_long, long_line, read, read_lines, stopped, unfinished, with_header}
use Rattle.scfs_schedule.specs.declared.types.BadKind.{BadKind}
use Rattle.scfs_schedule.specs.declared.types.BadKind.TheVariants as kinds
use Rattle.scfs_schedule.specs.declared.types.Ending.{Ending}
use Rattle.scfs_schedule.specs.declared.types.Event.{Event}
use Rattle.scfs_schedule.specs.declared.types.Header.{Header}
use Rattle.scfs_schedule.specs.declared.types.Place.{Place}
use Rattle.scfs_schedule.specs.declared.types.Place.TheVariants as places
use Rattle.scfs_schedule.specs.declared.types.Said.{Said}
use Rattle.scfs_schedule.specs.declared.types.Said.TheVariants as saids
use Rattle.scfs_schedule.proofs.ReadBackLemmas.{line_spelled}
use Rattle.scfs_live.specs.Finding.{event_read}
use Rattle.scfs_live.specs.Stopped.{IsReadAgain, ScriptsAreReadAgain}

-- what a line of the header can say
abbrev IsOfHeader : Said → Type 0
IsOfHeader (saids.Moves (places.Events header)) = ⊥
IsOfHeader (saids.Moves next) = Unit {0}
IsOfHeader (saids.Begins header) = Unit {0}
IsOfHeader (saids.Says event) = ⊥
IsOfHeader saids.Ends = ⊥
IsOfHeader (saids.Wrong kind) = Unit {0}

-- and one behind it, of these words
abbrev IsOfEvents : Header → List (List ℕ) → Said → Type 0
IsOfEvents header words (saids.Moves next) = ⊥
IsOfEvents header words (saids.Begins h) = ⊥
IsOfEvents header words (saids.Says event) = event_of header words ≡ Ok event
IsOfEvents header words saids.Ends = Unit {0}
IsOfEvents header words (saids.Wrong kind) = Unit {0}

said_form : {X : Type 0} (r : Result X BadKind) (f : X → Said) → ((x : X) → IsOfHeader (f x)) → IsOfHeader (said_by r f)
said_form (Ok x) f each = each x
said_form (Err kind) f each = tt

begin_form : (header : Header) (words : List (List ℕ)) → IsOfHeader (begin_said header words)
begin_form header [] = tt
begin_form header (word ∷ words) = tt

agents_by : (header : Header) (words : List (List ℕ)) (t u : Bool)
    → IsOfHeader (cond t (said_by (agent_line header words) (λ h. saids.Moves (places.Agents h))) (cond u (begin_said header words) (saids.Wrong kinds.Order)))
agents_by header words true u = said_form (agent_line header words) (λ h. saids.Moves (places.Agents h)) (λ h. tt)
agents_by header words false true = begin_form header words
agents_by header words false false = tt

agents_form : (header : Header) (words : List (List ℕ)) → IsOfHeader (agents_said header words)
agents_form header [] = tt
agents_form header (word ∷ words) = agents_by header words _ _

end_form : (header : Header) (words rest : List (List ℕ)) → IsOfEvents header words (end_said rest)
end_form header words [] = tt
end_form header words (x ∷ rest) = tt

named_form : (header : Header) (words : List (List ℕ)) (r : Result Event BadKind) → event_of header words ≡ r → IsOfEvents header words (said_by r saids.Says)
named_form header words (Ok event) is = is
named_form header words (Err kind) is = tt

event_by : (header : Header) (word : List ℕ) (words : List (List ℕ)) (t u : Bool)
    → IsOfEvents header (word ∷ words) (cond t (end_said words) (cond u (saids.Wrong kinds.Word) (said_by (event_named header word words) saids.Says)))
event_by header word words true u = end_form header (word ∷ words) words
event_by header word words false true = tt
event_by header word words false false = named_form header (word ∷ words) (event_named header word words) refl

event_form : (script : Bool) (header : Header) (words : List (List ℕ)) → IsOfEvents header words (event_said script header words)
event_form script header [] = tt
event_form script header (word ∷ words) = event_by header word words (bytes_eq word (codes "end")) (script && not (is_script_word word))

-- what was read of a script from a place on: its events are read again under its header
abbrev InHeader : Read → Type 0
InHeader r = (header : Header) → r.header ≡ Some header → Each (IsReadAgain header) r.events

abbrev AreSo : Place → Read → Type 0
AreSo (places.Events header) r = (r.header ≡ None) × Each (IsReadAgain header) r.events
AreSo place r = InHeader r

abbrev LineForm : Place → List ℕ → Said → Type 0
LineForm (places.Events header) line x = IsOfEvents header (words_of line) x
LineForm place line x = IsOfHeader x

line_form : (place : Place) (line : List ℕ) → LineForm place line (said_of true place line)
line_form places.Version line = said_form (header_number (codes "scfs") 1 1 (words_of line)) (λ version. saids.Moves places.Faults) (λ x. tt)
line_form places.Faults line = said_form (header_number (codes "f") 1 3 (words_of line)) (λ f. saids.Moves (places.Lease f)) (λ x. tt)
line_form (places.Lease f) line =
    said_form (header_number (codes "lease") 1 1000000000 (words_of line)) (λ lease. saids.Moves (places.Stale f lease)) (λ x. tt)
line_form (places.Stale f lease) line =
    said_form (header_number (codes "stale") 0 1000000000 (words_of line))
    (λ stale. saids.Moves (places.Agents (record { f = f; lease = lease; stale = stale; agents = [] }))) (λ x. tt)
line_form (places.Agents header) line = agents_form header (words_of line)
line_form (places.Events header) line = event_form true header (words_of line)

nothing_read : (ending : Ending) → InHeader (stopped ending)
nothing_read ending header is = cc

stopped_so : (place : Place) (ending : Ending) → AreSo place (stopped ending)
stopped_so (places.Events header) ending = (refl, tt)
stopped_so place ending = nothing_read ending

-- of a header's line
moved_so : (next : Place) (r : Read) → IsOfHeader (saids.Moves next) → AreSo next r → InHeader r
moved_so (places.Events header) r form so = absurd form
moved_so next r form so = so

begun_so : (h : Header) (r : Read) → AreSo (places.Events h) r → InHeader (with_header h r)
begun_so h r so header is =
    let same : h ≡ header = cc in
    subst (λ (x : Header). Each (IsReadAgain x) r.events) same so.1

header_so : (place : Place) (x : Said) (n : ℕ) (rest : Place → Read) → IsOfHeader x → ((p : Place) → AreSo p (rest p)) → InHeader (after x place n rest)
header_so place (saids.Moves next) n rest form so = moved_so next (rest next) form (so next)
header_so place (saids.Begins h) n rest form so = begun_so h (rest (places.Events h)) (so (places.Events h))
header_so place (saids.Says event) n rest form so = absurd form
header_so place saids.Ends n rest form so = absurd form
header_so place (saids.Wrong kind) n rest form so = nothing_read (bad_line n kind)

-- of a line behind it
event_so : (header : Header) (line : List ℕ) (x : Said) (n : ℕ) (rest : Place → Read) → IsOfEvents header (words_of line) x → ((p : Place) → AreSo p (rest p))
    → AreSo (places.Events header) (after x (places.Events header) n rest)
event_so header line (saids.Moves next) n rest form so = absurd form
event_so header line (saids.Begins h) n rest form so = absurd form
event_so header line (saids.Says event) n rest form so =
    let others = so (places.Events header) in
    let again = subst (λ l. event_read header l ≡ Ok event) (line_spelled header line event form) form in
    (others.0, (again, others.1))
event_so header line saids.Ends n rest form so = (refl, tt)
event_so header line (saids.Wrong kind) n rest form so = (refl, tt)

after_so : (place : Place) (line : List ℕ) (x : Said) (n : ℕ) (rest : Place → Read) → LineForm place line x → ((p : Place) → AreSo p (rest p))
    → AreSo place (after x place n rest)
after_so (places.Events header) line x n rest form so = event_so header line x n rest form so
after_so places.Version line x n rest form so = header_so places.Version x n rest form so
after_so places.Faults line x n rest form so = header_so places.Faults x n rest form so
after_so (places.Lease f) line x n rest form so = header_so (places.Lease f) x n rest form so
after_so (places.Stale f lease) line x n rest form so = header_so (places.Stale f lease) x n rest form so
after_so (places.Agents header) line x n rest form so = header_so (places.Agents header) x n rest form so

by_length : (place : Place) (t : Bool) (r : Read) → AreSo place r → AreSo place (cond t long_line r)
by_length place true r so = stopped_so place _
by_length place false r so = so

reads_so : (longer : Bool) (ps : List (List ℕ)) (place : Place) (n : ℕ) → AreSo place (read_lines true longer place n ps)
reads_so longer [] place n = stopped_so place (unfinished longer (n + 1))
reads_so longer (last ∷ []) place n = by_length place (is_too_long last) (stopped (unfinished longer (n + 1))) (stopped_so place (unfinished longer (n + 1)))
reads_so longer (line ∷ next ∷ rest) place n =
    by_length place (is_too_long line) (after (said_of true place line) place (n + 1) (λ p. read_lines true longer p (n + 1) (next ∷ rest)))
    (after_so place line (said_of true place line) (n + 1) (λ p. read_lines true longer p (n + 1) (next ∷ rest)) (line_form place line)
    (λ p. reads_so longer (next ∷ rest) p (n + 1)))

pub scripts_are_read_again : ScriptsAreReadAgain
scripts_are_read_again text = reads_so (nat_lt input_limit (length text)) (pieces 10 (take input_limit text)) places.Version 0
