-- The events that a script says are those of a script.
use Rattle.std.proofs.Common.{◌≡◌, ℕ, ◌+◌, List, [], ◌∷◌, ◌++◌, refl, subst, Option, length, take, Bool, true, false, if◌then◌else◌}
use Rattle.std.specs.Prelude.{nat_lt, nat_le, codes, ◌&&◌, Result, Ok, Err}
use Rattle.std.specs.Str.{bytes_eq}
use Rattle.scfs_base.specs.Limits.{input_limit}
use Rattle.scfs_base.specs.Pieces.{pieces}
use Rattle.scfs_schedule.specs.Grammar.{IsScriptEvent, agent_line, agents_said, begin_said, header_number, said_by, said_of, words_of}
use Rattle.scfs_schedule.specs.Reading.{Read, after, is_too_long, long_line, read, read_lines, stopped, unfinished}
use Rattle.scfs_schedule.specs.declared.types.BadKind.{BadKind}
use Rattle.scfs_schedule.specs.declared.types.BadKind.TheVariants as kinds
use Rattle.scfs_schedule.specs.declared.types.Ending.{Ending}
use Rattle.scfs_schedule.specs.declared.types.Event.{Event}
use Rattle.scfs_schedule.specs.declared.types.Header.{Header}
use Rattle.scfs_schedule.specs.declared.types.Place.{Place}
use Rattle.scfs_schedule.specs.declared.types.Place.TheVariants as places
use Rattle.scfs_schedule.specs.declared.types.Said.{Said}
use Rattle.scfs_schedule.specs.declared.types.Said.TheVariants as saids
use Rattle.scfs_schedule.proofs.ReadBackLemmas.{script_says}

-- each of these may stand in a script
abbrev AreOfScript : List Event → Type 0
AreOfScript [] = Unit {0}
AreOfScript (event ∷ events) = IsScriptEvent event × AreOfScript events

-- the lines of a header say no event
moves_on : {A : Type 0} (r : Result A BadKind) (to : A → Place) (event : Event) → saids.Says event ≡ said_by r (λ x. saids.Moves (to x)) → ⊥
moves_on (Ok x) to event is = cc
moves_on (Err kind) to event is = cc

begins : (header : Header) (words : List (List ℕ)) (event : Event) → saids.Says event ≡ begin_said header words → ⊥
begins header [] event is = cc
begins header (word ∷ words) event is = cc

names_agents : (header : Header) (words : List (List ℕ)) (event : Event) → saids.Says event ≡ agents_said header words → ⊥
names_agents header [] event is = cc
names_agents header (word ∷ words) event is =
    by_tests (bytes_eq word (codes "agent") && nat_lt (length header.agents) 8) (bytes_eq word (codes "begin") && nat_le 1 (length header.agents)) is where
      by_tests : (t u : Bool) → saids.Says event ≡ (if t then said_by (agent_line header words) (λ h. saids.Moves (places.Agents h))
          else (if u then begin_said header words else saids.Wrong kinds.Order)) → ⊥
      by_tests true u says = moves_on (agent_line header words) places.Agents event says
      by_tests false true says = begins header words event says
      by_tests false false says = cc

-- and those behind it none that a script may not have
line_of_script : (place : Place) (line : List ℕ) (event : Event) → saids.Says event ≡ said_of true place line → IsScriptEvent event
line_of_script (places.Events header) line event is = script_says header (words_of line) event is
line_of_script places.Version line event is = absurd (moves_on (header_number (codes "scfs") 1 1 (words_of line)) (λ version. places.Faults) event is)
line_of_script places.Faults line event is = absurd (moves_on (header_number (codes "f") 1 3 (words_of line)) places.Lease event is)
line_of_script (places.Lease f) line event is = absurd (moves_on (header_number (codes "lease") 1 1000000000 (words_of line)) (places.Stale f) event is)
line_of_script (places.Stale f lease) line event is =
    absurd (moves_on (header_number (codes "stale") 0 1000000000 (words_of line))
    (λ stale. places.Agents (record { f = f; lease = lease; stale = stale; agents = [] })) event is)
line_of_script (places.Agents header) line event is = absurd (names_agents header (words_of line) event is)

after_of_script : (said : Said) (place : Place) (line : ℕ) (rest : Place → Read) → ((event : Event) → saids.Says event ≡ said → IsScriptEvent event)
    → ((p : Place) → AreOfScript (rest p).events) → AreOfScript (after said place line rest).events
after_of_script (saids.Moves next) place line rest may later = later next
after_of_script (saids.Begins header) place line rest may later = later (places.Events header)
after_of_script (saids.Says event) place line rest may later = (may event refl, later place)
after_of_script saids.Ends place line rest may later = tt
after_of_script (saids.Wrong kind) place line rest may later = tt

unless_long : (long : Bool) (read : Read) → AreOfScript read.events → AreOfScript (if long then long_line else read).events
unless_long true read all = tt
unless_long false read all = all

lines_of_script : (longer : Bool) (place : Place) (lines : ℕ) (text : List (List ℕ)) → AreOfScript (read_lines true longer place lines text).events
lines_of_script longer place lines [] = tt
lines_of_script longer place lines (last ∷ []) = unless_long (is_too_long last) (stopped (unfinished longer (lines + 1))) tt
lines_of_script longer place lines (line ∷ next ∷ rest) =
    unless_long (is_too_long line) (after (said_of true place line) place (lines + 1) (λ p. read_lines true longer p (lines + 1) (next ∷ rest)))
    (after_of_script (said_of true place line) place (lines + 1) (λ p. read_lines true longer p (lines + 1) (next ∷ rest)) (λ event is. line_of_script place line event is)
    (λ p. lines_of_script longer p (lines + 1) (next ∷ rest)))

one_of : (done : List Event) (event : Event) (rest : List Event) → AreOfScript (done ++ event ∷ rest) → IsScriptEvent event
one_of [] event rest all = all.0
one_of (first ∷ done) event rest all = one_of done event rest all.1

-- an event that a script says may stand in a script
pub of_script : (text : List ℕ) (done : List Event) (event : Event) (rest : List Event) → {header : Option Header} → {ending : Ending}
    → read true text ≡ record { header = header; events = done ++ event ∷ rest; ending = ending } → IsScriptEvent event
of_script text done event rest is =
    one_of done event rest
    (subst (λ (r : Read). AreOfScript r.events) is
    (lines_of_script (nat_lt input_limit (length text)) places.Version 0 (pieces 10 (take input_limit text))))
