-- What is driven of a script can be given, and is read again from its lines.
use Rattle.std.proofs.Common.{◌≡◌, ℕ, ◌+◌, List, [], ◌∷◌, refl, subst, Bool, true, false, Option, Some, None}
use Rattle.std.specs.Prelude.{if◌then◌else◌}
use Rattle.scfs_anchor.specs.Tree.{Each}
use Rattle.scfs_schedule.specs.Reading.{read}
use Rattle.scfs_schedule.specs.declared.types.Ending.{Ending}
use Rattle.scfs_schedule.specs.declared.types.Event.{Event}
use Rattle.scfs_schedule.specs.declared.types.Header.{Header}
use Rattle.scfs_world.specs.Built.{is_built, is_built_header}
use Rattle.scfs_live.specs.Stopped.{IsGiven, IsReadAgain}
use Rattle.scfs_live.proofs.ScriptLemmas.{scripts_are_read_again}
use Rattle.scfs_top.specs.declared.closing.Finish.{Finish}
use Rattle.scfs_top.specs.declared.closing.Finish.TheVariants as finishes
use Rattle.scfs_top.specs.Playing.{Playing, before_event, finished, header_lines, under_header}
use Rattle.scfs_top.specs.Scripting.{driven_from, events_driven, script_of}

by_built : (header : Header) (line : ℕ) (event : Event) (rest : Playing) (t : Bool) → is_built event ≡ t → IsReadAgain header event → Each (IsGiven header) rest.events
    → Each (IsGiven header) (if t then before_event event rest else finished (finishes.Unbuilt line)).events
by_built header line event rest true built again others = (record { again = again; built = built }, others)
by_built header line event rest false built again others = tt

events_given : (header : Header) (line : ℕ) (events : List Event) (ending : Ending) → Each (IsReadAgain header) events
    → Each (IsGiven header) (events_driven line events ending).events
events_given header line [] ending again = tt
events_given header line (event ∷ events) ending again =
    by_built header line event (events_driven (line + 1) events ending) (is_built event) refl again.0 (events_given header (line + 1) events ending again.1)

under_given : (h header : Header) (playing : Playing) (finish : Finish) (t : Bool) → (if t then under_header h playing else finished finish).header ≡ Some header
    → Each (IsGiven h) playing.events → (h ≡ header) × Each (IsGiven header) (if t then under_header h playing else finished finish).events
under_given h header playing finish true is each =
    let same : h ≡ header = cc in
    (same, subst (λ (x : Header). Each (IsGiven x) playing.events) same each)
under_given h header playing finish false is each = cc

from_given : (o : Option Header) (events : List Event) (ending : Ending) (header : Header) → (driven_from o events ending).header ≡ Some header
    → ((h : Header) → o ≡ Some h → Each (IsReadAgain h) events) → (o ≡ Some header) × Each (IsGiven header) (driven_from o events ending).events
from_given None events ending header is again = cc
from_given (Some h) events ending header is again =
    let playing = events_driven (header_lines h + 1) events ending in
    let given = under_given h header playing (finishes.Unbuilt (header_lines h)) (is_built_header h) is (events_given h (header_lines h + 1) events ending (again h refl)) in
    (let same : h ≡ header = given.0 in cc, given.1)

-- a header that is driven is the one that was read, and so are the events
pub script_given : (taken : List ℕ) (header : Header) → (script_of taken).header ≡ Some header
    → ((read true taken).header ≡ Some header) × Each (IsGiven header) (script_of taken).events
script_given taken header is =
    let said = read true taken in
    from_given said.header said.events said.ending header is (λ h stated. scripts_are_read_again taken h stated)
