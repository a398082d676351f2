-- No text comes to its line `end` before its header.
use Rattle.std.proofs.Common.{◌≡◌, ◌≢◌, ℕ, ◌+◌, List, [], ◌∷◌, Bool, true, false, cond, refl, ap, subst, Option, Some, None, Result, Ok, Err, ◌&&◌}
use Rattle.std.specs.Str.{bytes_eq}
use Rattle.std.specs.Prelude.{codes, length, nat_le, nat_lt, take}
use Rattle.scfs_base.specs.Limits.{input_limit}
use Rattle.scfs_base.specs.Pieces.{pieces}
use Rattle.scfs_schedule.specs.Grammar.{agent_line, agents_said, begin_said, header_number, said_by, said_of, words_of}
use Rattle.scfs_schedule.specs.Places.{IsInHeader}
use Rattle.scfs_schedule.specs.Reading.{Read, after, is_too_long, long_line, read, read_lines, stopped, unfinished}
use Rattle.scfs_schedule.specs.declared.types.BadKind.{BadKind}
use Rattle.scfs_schedule.specs.declared.types.BadKind.TheVariants as kinds
use Rattle.scfs_schedule.specs.declared.types.Ending.{Ending}
use Rattle.scfs_schedule.specs.declared.types.Ending.TheVariants as endings
use Rattle.scfs_schedule.specs.declared.types.Event.{Event}
use Rattle.scfs_schedule.specs.declared.types.Header.{Header}
use Rattle.scfs_schedule.specs.declared.types.Place.{Place}
use Rattle.scfs_schedule.specs.declared.types.Place.TheVariants as places
use Rattle.scfs_schedule.specs.declared.types.Said.{Said}
use Rattle.scfs_schedule.specs.declared.types.Said.TheVariants as saids
use Rattle.scfs_world.specs.Built.{is_built_header}
use Rattle.scfs_top.specs.Playing.{Playing, events_played, finished, header_lines, played, played_from, under_header}
use Rattle.scfs_top.specs.Plays.{EndsAtOnce}
use Rattle.scfs_top.specs.declared.closing.Finish.{Finish}
use Rattle.scfs_top.specs.declared.closing.Finish.TheVariants as finishes

-- what a line of the header says: it moves on in the header or ends it, or is wrong
abbrev IsOfHeader : Said → Type 0
IsOfHeader (saids.Moves next) = IsInHeader next
IsOfHeader (saids.Begins header) = Unit {0}
IsOfHeader (saids.Says event) = ⊥
IsOfHeader saids.Ends = ⊥
IsOfHeader (saids.Wrong kind) = Unit {0}

said_by_of : {A : Type 0} → (r : Result A BadKind) (f : A → Said) → ((x : A) → IsOfHeader (f x)) → IsOfHeader (said_by r f)
said_by_of (Ok x) f h = h x
said_by_of (Err kind) f h = tt

chosen : (b : Bool) (x y : Said) → IsOfHeader x → IsOfHeader y → IsOfHeader (cond b x y)
chosen true x y h k = h
chosen false x y h k = k

begin_of : (header : Header) (words : List (List ℕ)) → IsOfHeader (begin_said header words)
begin_of header [] = tt
begin_of header (word ∷ words) = tt

agents_of : (header : Header) (words : List (List ℕ)) → IsOfHeader (agents_said header words)
agents_of header [] = tt
agents_of header (word ∷ words) =
    let next = λ (h : Header). saids.Moves (places.Agents h) in
    let begins = cond (bytes_eq word (codes "begin") && nat_le 1 (length header.agents)) (begin_said header words) (saids.Wrong kinds.Order) in
    chosen (bytes_eq word (codes "agent") && nat_lt (length header.agents) 8) (said_by (agent_line header words) next) begins
    (said_by_of (agent_line header words) next (λ h. tt))
    (chosen (bytes_eq word (codes "begin") && nat_le 1 (length header.agents)) (begin_said header words) (saids.Wrong kinds.Order) (begin_of header words) tt)

said_in_header : (script : Bool) (place : Place) (line : List ℕ) → IsInHeader place → IsOfHeader (said_of script place line)
said_in_header script places.Version line head =
    said_by_of (header_number (codes "scfs") 1 1 (words_of line)) (λ version. saids.Moves places.Faults) (λ x. tt)
said_in_header script places.Faults line head =
    said_by_of (header_number (codes "f") 1 3 (words_of line)) (λ f. saids.Moves (places.Lease f)) (λ x. tt)
said_in_header script (places.Lease f) line head =
    said_by_of (header_number (codes "lease") 1 1000000000 (words_of line)) (λ lease. saids.Moves (places.Stale f lease)) (λ x. tt)
said_in_header script (places.Stale f lease) line head =
    said_by_of (header_number (codes "stale") 0 1000000000 (words_of line))
    (λ stale. saids.Moves (places.Agents (record { f = f; lease = lease; stale = stale; agents = [] }))) (λ x. tt)
said_in_header script (places.Agents header) line head = agents_of header (words_of line)
said_in_header script (places.Events header) line head = absurd head

-- what is read has a header, or does not come to its line `end`
abbrev HasHeader : Read → Type 0
HasHeader text = text.header ≡ None → text.ending ≡ endings.Ended → ⊥

unfinished_has : (longer : Bool) (line : ℕ) → HasHeader (stopped (unfinished longer line))
unfinished_has true line none end = cc
unfinished_has false line none end = cc

chosen_has : (b : Bool) (x y : Read) → HasHeader x → HasHeader y → HasHeader (cond b x y)
chosen_has true x y h k = h
chosen_has false x y h k = k

long_has : HasHeader long_line
long_has none end = cc

after_has : (said : Said) → IsOfHeader said → (place : Place) (lines : ℕ) (rest : Place → Read) → ((p : Place) → IsInHeader p → HasHeader (rest p))
    → HasHeader (after said place lines rest)
after_has (saids.Moves next) of place lines rest h = h next of
after_has (saids.Begins header) of place lines rest h = λ none end. cc
after_has (saids.Says event) of place lines rest h = absurd of
after_has saids.Ends of place lines rest h = absurd of
after_has (saids.Wrong kind) of place lines rest h = λ none end. cc

lines_have : (script longer : Bool) (place : Place) (lines : ℕ) (text : List (List ℕ)) → IsInHeader place → HasHeader (read_lines script longer place lines text)
lines_have script longer place lines [] head = unfinished_has longer (lines + 1)
lines_have script longer place lines (last ∷ []) head =
    chosen_has (is_too_long last) long_line (stopped (unfinished longer (lines + 1))) long_has (unfinished_has longer (lines + 1))
lines_have script longer place lines (line ∷ next ∷ rest) head =
    let later = λ (p : Place). read_lines script longer p (lines + 1) (next ∷ rest) in
    chosen_has (is_too_long line) long_line (after (said_of script place line) place (lines + 1) later) long_has
    (after_has (said_of script place line) (said_in_header script place line head) place (lines + 1) later
    (λ p in_header. lines_have script longer p (lines + 1) (next ∷ rest) in_header))

read_has : (taken : List ℕ) → HasHeader (read false taken)
read_has taken = lines_have false (nat_lt input_limit (length taken)) places.Version 0 (pieces 10 (take input_limit taken)) tt

under_built : (built : Bool) (header : Header) (playing : Playing) (line : ℕ)
    → cond built (under_header header playing) (finished (finishes.Unbuilt line)) ≡ finished (finishes.Text endings.Ended) → ⊥
under_built true header playing line is = let e = ap (λ (p : Playing). p.header) is in cc
under_built false header playing line is = let e = ap (λ (p : Playing). p.finish) is in cc

from_has : (header : Option Header) (events : List Event) (ending : Ending) → (header ≡ None → ending ≡ endings.Ended → ⊥)
    → played_from header events ending ≡ finished (finishes.Text endings.Ended) → ⊥
from_has None events ending has is = let e = ap (λ (p : Playing). p.finish) is in has refl cc
from_has (Some header) events ending has is =
    under_built (is_built_header header) header (events_played (header_lines header + 1) 0 events ending) (header_lines header) is

-- where no event is played, what is played of a text does not come to its line `end`
pub at_once_is_no_end : (taken : List ℕ) (finish : Option Finish) → EndsAtOnce (played (read false taken)) finish → finish ≢ Some (finishes.Text endings.Ended)
at_once_is_no_end taken finish at_once end =
    let text = read false taken in
    from_has text.header text.events text.ending (read_has taken) (subst (EndsAtOnce (played text)) end at_once)
