use Rattle.std.specs.Prelude.{◌≡◌, List, [], ◌∷◌, ◌++◌, take, refl}
use Rattle.scfs_base.specs.Words.{hex_pair}
use Rattle.scfs_schedule.specs.declared.types.Event.{Event}
use Rattle.scfs_schedule.specs.declared.types.Event.TheVariants as events
use Rattle.scfs_schedule.specs.declared.types.Call.TheVariants as calls
use Rattle.scfs_schedule.specs.declared.types.Line.{Line}
use Rattle.scfs_schedule.specs.declared.types.Line.TheVariants as lines
use Rattle.scfs_schedule.specs.declared.types.Src.TheVariants as srcs
use Rattle.scfs_schedule.specs.declared.types.Refusal.TheVariants as refusals
use Rattle.scfs_model.specs.Names.{request_no, file_id}
use Rattle.scfs_model.proofs.ShortFormat.{setup}
use Rattle.scfs_model.proofs.Played.{lines_of, due_of}
use Rattle.scfs_model.proofs.FirstRow.{path_a}
use Rattle.scfs_model.proofs.SharedFile.{begins, begins_lines, commits, commits_lines}

-- Locks that end.

-- four acknowledgements are given, and the commit waits for the space; its lock lives until 100
abbrev pub acked : List Event
acked = begins ++ take 8 commits

abbrev pub acked_lines : List (List Line)
acked_lines = begins_lines ++ take 8 commits_lines

-- the commit comes in time
abbrev pub in_time : List Event
in_time =
    acked ++ events.Tick 99 ∷ events.Space 0 ∷ events.Told 0 ∷ []

abbrev pub in_time_lines : List (List Line)
in_time_lines =
    acked_lines ++ [] ∷ (lines.Committed (request_no 0 0 7) (file_id 0 0 1) 1 ∷ []) ∷ (lines.Closed 0 1 1 ∷ []) ∷ []

in_time_made : lines_of (setup 1 2) in_time ≡ in_time_lines
unfolding hex_pair
in_time_made = refl

in_time_due : due_of (setup 1 2) in_time ≡ in_time_lines
unfolding hex_pair
in_time_due = refl

-- the lock ended: the commit is refused, and so is the close; the session is away
abbrev pub too_late : List Event
too_late =
    acked ++ events.Tick 100 ∷ events.Space 0 ∷ events.Told 0 ∷ events.Call 0 (calls.Close 1) ∷ events.Turn 0 ∷ []

abbrev pub too_late_lines : List (List Line)
too_late_lines =
    acked_lines ++ [] ∷ (lines.Refused (request_no 0 0 7) refusals.LockLost ∷ []) ∷ (lines.No 0 refusals.LockLost ∷ [])
    ∷ (lines.No 0 refusals.BadHandle ∷ []) ∷ [] ∷ []

too_late_made : lines_of (setup 1 2) too_late ≡ too_late_lines
unfolding hex_pair
too_late_made = refl

too_late_due : due_of (setup 1 2) too_late ≡ too_late_lines
unfolding hex_pair
too_late_due = refl

-- another agent takes the file when the lock ended, not before; then the first one's commit is refused, and the other's lock stays
-- until its own end
abbrev pub taken : List Event
taken =
    acked ++ events.Tick 99 ∷ events.Call 1 (calls.OpenW path_a) ∷ events.Space 1 ∷ events.Told 1 ∷ events.Tick 1
    ∷ events.Call 1 (calls.OpenW path_a) ∷ events.Space 1 ∷ events.Told 1 ∷ events.Space 0 ∷ events.Told 0 ∷ events.Tick 99
    ∷ events.Call 0 (calls.OpenW path_a) ∷ events.Space 0 ∷ events.Told 0 ∷ events.Call 0 (calls.OpenW path_a) ∷ events.Tick 1
    ∷ events.Space 0 ∷ events.Told 0 ∷ []

abbrev pub taken_lines : List (List Line)
taken_lines =
    acked_lines ++ [] ∷ [] ∷ (lines.Refused (request_no 1 0 1) (refusals.Locked 0) ∷ []) ∷ (lines.No 1 (refusals.Locked 0) ∷ []) ∷ []
    ∷ [] ∷ (lines.Locked (request_no 1 0 2) (file_id 0 0 1) 200 ∷ [])
    ∷ (lines.Saw (request_no 1 0 2) (file_id 0 0 1) 0 ∷ lines.Opened 1 2 0 srcs.Empty 0 ∷ [])
    ∷ (lines.Refused (request_no 0 0 7) refusals.LockLost ∷ []) ∷ (lines.No 0 refusals.LockLost ∷ []) ∷ [] ∷ []
    ∷ (lines.Refused (request_no 0 0 8) (refusals.Locked 1) ∷ []) ∷ (lines.No 0 (refusals.Locked 1) ∷ []) ∷ [] ∷ []
    ∷ (lines.Locked (request_no 0 0 9) (file_id 0 0 1) 300 ∷ [])
    ∷ (lines.Saw (request_no 0 0 9) (file_id 0 0 1) 0 ∷ lines.Opened 0 3 0 srcs.Empty 0 ∷ []) ∷ []

taken_made : lines_of (setup 1 2) taken ≡ taken_lines
unfolding hex_pair
taken_made = refl

taken_due : due_of (setup 1 2) taken ≡ taken_lines
unfolding hex_pair
taken_due = refl
