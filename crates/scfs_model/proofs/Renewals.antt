use Rattle.std.specs.Prelude.{◌≡◌, ℕ, ◌+◌, List, [], ◌∷◌, ◌++◌, take, codes, refl}
use Rattle.scfs_base.specs.Words.{hex_pair}
use Rattle.scfs_schedule.specs.declared.types.Event.{Event}
use Rattle.scfs_schedule.specs.declared.types.Event.TheVariants as events
use Rattle.scfs_schedule.specs.declared.types.Call.TheVariants as calls
use Rattle.scfs_schedule.specs.declared.types.Line.{Line}
use Rattle.scfs_schedule.specs.declared.types.Line.TheVariants as lines
use Rattle.scfs_schedule.specs.declared.types.Src.TheVariants as srcs
use Rattle.scfs_schedule.specs.declared.types.Sum.TheVariants as sums
use Rattle.scfs_schedule.specs.declared.types.Refusal.TheVariants as refusals
use Rattle.scfs_model.specs.Names.{request_no, file_id}
use Rattle.scfs_model.proofs.ShortFormat.{setup}
use Rattle.scfs_model.proofs.Played.{lines_of, due_of}
use Rattle.scfs_model.proofs.FirstRow.{path_a}
use Rattle.scfs_model.proofs.SharedFile.{hi, sha_of, n1, begins, begins_lines, commits, commits_lines}
use Rattle.scfs_model.proofs.Clocked.{acked, acked_lines}

-- Locks that agents renew.

-- the path /b
abbrev pub path_b : List ℕ
path_b = codes "/b"

-- a file is made and opened for writing; its lock lives until 100
abbrev pub opened : List Event
opened = take 6 begins

abbrev pub opened_lines : List (List Line)
opened_lines = take 6 begins_lines

-- its objects are put at all clouds, after k − 1 requests; and asked of all clouds by agent 1
abbrev pub puts : ℕ → List Line
puts k =
    lines.Put (request_no 0 0 k) 0 n1 170 (sha_of 0) ∷ lines.Put (request_no 0 0 (k + 1)) 1 n1 170 (sha_of 1)
    ∷ lines.Put (request_no 0 0 (k + 2)) 2 n1 170 (sha_of 2) ∷ lines.Put (request_no 0 0 (k + 3)) 3 n1 170 (sha_of 3) ∷ []

abbrev pub gets : ℕ → List Line
gets k =
    lines.Get (request_no 1 0 k) 0 n1 ∷ lines.Get (request_no 1 0 (k + 1)) 1 n1
    ∷ lines.Get (request_no 1 0 (k + 2)) 2 n1 ∷ lines.Get (request_no 1 0 (k + 3)) 3 n1 ∷ []

-- a lock is renewed when half of its life is left, and not before; then half of what was told
abbrev pub at_half : List Event
at_half =
    opened ++ events.Tick 49 ∷ events.Turn 0 ∷ events.Space 0 ∷ events.Tick 1 ∷ events.Turn 0 ∷ events.Space 0 ∷ events.Told 0
    ∷ events.Tick 49 ∷ events.Turn 0 ∷ events.Space 0 ∷ events.Tick 1 ∷ events.Turn 0 ∷ events.Space 0 ∷ events.Told 0 ∷ []

abbrev pub at_half_lines : List (List Line)
at_half_lines =
    opened_lines ++ [] ∷ [] ∷ (lines.Skip ∷ []) ∷ [] ∷ [] ∷ (lines.Renewed (request_no 0 0 3) 150 ∷ []) ∷ [] ∷ [] ∷ []
    ∷ (lines.Skip ∷ []) ∷ [] ∷ [] ∷ (lines.Renewed (request_no 0 0 4) 200 ∷ []) ∷ [] ∷ []

at_half_made : lines_of (setup 1 2) at_half ≡ at_half_lines
unfolding hex_pair
at_half_made = refl

at_half_due : due_of (setup 1 2) at_half ≡ at_half_lines
unfolding hex_pair
at_half_due = refl

-- the renewal comes too late: the session is not renewed again, its close uploads all the same, and is refused
abbrev pub lapses : List Event
lapses =
    opened ++ events.Tick 50 ∷ events.Turn 0 ∷ events.Tick 50 ∷ events.Space 0 ∷ events.Told 0 ∷ events.Turn 0 ∷ events.Space 0
    ∷ events.Call 0 (calls.Write 1 0 hi) ∷ events.Call 0 (calls.Close 1) ∷ events.Serve 0 ∷ events.Give 0 ∷ events.Serve 1
    ∷ events.Give 1 ∷ events.Serve 2 ∷ events.Give 2 ∷ events.Space 0 ∷ events.Told 0 ∷ []

abbrev pub lapses_lines : List (List Line)
lapses_lines =
    opened_lines ++ [] ∷ [] ∷ [] ∷ (lines.Refused (request_no 0 0 3) refusals.LockLost ∷ []) ∷ (lines.Lapsed 0 1 ∷ []) ∷ []
    ∷ (lines.Skip ∷ []) ∷ (lines.OkWrite 0 1 2 ∷ []) ∷ puts 4 ∷ (lines.Did 0 (request_no 0 0 4) sums.Ack ∷ [])
    ∷ (lines.Gave 0 (request_no 0 0 4) sums.Ack ∷ []) ∷ (lines.Did 1 (request_no 0 0 5) sums.Ack ∷ [])
    ∷ (lines.Gave 1 (request_no 0 0 5) sums.Ack ∷ []) ∷ (lines.Did 2 (request_no 0 0 6) sums.Ack ∷ [])
    ∷ (lines.Gave 2 (request_no 0 0 6) sums.Ack ∷ []) ∷ (lines.Refused (request_no 0 0 8) refusals.LockLost ∷ [])
    ∷ (lines.No 0 refusals.LockLost ∷ []) ∷ []

lapses_made : lines_of (setup 1 2) lapses ≡ lapses_lines
unfolding hex_pair
lapses_made = refl

lapses_due : due_of (setup 1 2) lapses ≡ lapses_lines
unfolding hex_pair
lapses_due = refl

-- a lock that ended as the agent was told it last is not renewed, though it lives on
abbrev pub told_late : List Event
told_late =
    opened ++ events.Tick 50 ∷ events.Turn 0 ∷ events.Space 0 ∷ events.Tick 50 ∷ events.Turn 0 ∷ events.Space 0 ∷ events.Told 0
    ∷ events.Turn 0 ∷ events.Space 0 ∷ []

abbrev pub told_late_lines : List (List Line)
told_late_lines =
    opened_lines ++ [] ∷ [] ∷ (lines.Renewed (request_no 0 0 3) 150 ∷ []) ∷ [] ∷ [] ∷ (lines.Skip ∷ []) ∷ [] ∷ []
    ∷ (lines.Renewed (request_no 0 0 4) 200 ∷ []) ∷ []

told_late_made : lines_of (setup 1 2) told_late ≡ told_late_lines
unfolding hex_pair
told_late_made = refl

told_late_due : due_of (setup 1 2) told_late ≡ told_late_lines
unfolding hex_pair
told_late_due = refl

-- a closed session is renewed, but not while a renewal is under way; so its commit is in time
abbrev pub while_uploading : List Event
while_uploading =
    begins ++ events.Tick 50 ∷ events.Turn 0 ∷ events.Turn 0 ∷ events.Space 0 ∷ events.Tick 60 ∷ events.Told 0 ∷ events.Turn 0
    ∷ events.Serve 0 ∷ events.Serve 1 ∷ events.Serve 2 ∷ events.Give 0 ∷ events.Give 1 ∷ events.Give 2 ∷ events.Space 0 ∷ events.Told 0
    ∷ events.Tick 90 ∷ events.Space 0 ∷ events.Told 0 ∷ []

abbrev pub while_uploading_lines : List (List Line)
while_uploading_lines =
    begins_lines ++ [] ∷ puts 8 ∷ puts 12 ∷ (lines.Renewed (request_no 0 0 7) 150 ∷ []) ∷ [] ∷ [] ∷ puts 17
    ∷ (lines.Did 0 (request_no 0 0 3) sums.Ack ∷ []) ∷ (lines.Did 1 (request_no 0 0 4) sums.Ack ∷ [])
    ∷ (lines.Did 2 (request_no 0 0 5) sums.Ack ∷ []) ∷ (lines.Gave 0 (request_no 0 0 3) sums.Ack ∷ [])
    ∷ (lines.Gave 1 (request_no 0 0 4) sums.Ack ∷ []) ∷ (lines.Gave 2 (request_no 0 0 5) sums.Ack ∷ [])
    ∷ (lines.Renewed (request_no 0 0 16) 210 ∷ []) ∷ [] ∷ [] ∷ (lines.Committed (request_no 0 0 21) (file_id 0 0 1) 1 ∷ [])
    ∷ (lines.Closed 0 1 1 ∷ []) ∷ []

while_uploading_made : lines_of (setup 1 2) while_uploading ≡ while_uploading_lines
unfolding hex_pair
while_uploading_made = refl

while_uploading_due : due_of (setup 1 2) while_uploading ≡ while_uploading_lines
unfolding hex_pair
while_uploading_due = refl

-- a session whose commit was done and not told yet is renewed still; that is refused
abbrev pub after_commit : List Event
after_commit =
    acked ++ events.Tick 60 ∷ events.Turn 0 ∷ events.Space 0 ∷ events.Space 0 ∷ events.Told 0 ∷ events.Told 0 ∷ events.Turn 0
    ∷ events.Space 0 ∷ []

abbrev pub after_commit_lines : List (List Line)
after_commit_lines =
    acked_lines ++ [] ∷ [] ∷ (lines.Committed (request_no 0 0 7) (file_id 0 0 1) 1 ∷ [])
    ∷ (lines.Refused (request_no 0 0 8) refusals.LockLost ∷ []) ∷ (lines.Closed 0 1 1 ∷ []) ∷ (lines.Lapsed 0 1 ∷ []) ∷ []
    ∷ (lines.Skip ∷ []) ∷ []

after_commit_made : lines_of (setup 1 2) after_commit ≡ after_commit_lines
unfolding hex_pair
after_commit_made = refl

after_commit_due : due_of (setup 1 2) after_commit ≡ after_commit_lines
unfolding hex_pair
after_commit_due = refl

-- of two sessions the first is renewed first
abbrev pub two_sessions : List Event
two_sessions =
    opened ++ events.Call 0 (calls.Create path_b) ∷ events.Space 0 ∷ events.Told 0 ∷ events.Call 0 (calls.OpenW path_b) ∷ events.Space 0
    ∷ events.Told 0 ∷ events.Tick 50 ∷ events.Turn 0 ∷ events.Tick 50 ∷ events.Space 0 ∷ events.Space 0 ∷ events.Told 0 ∷ events.Told 0
    ∷ []

abbrev pub two_sessions_lines : List (List Line)
two_sessions_lines =
    opened_lines ++ [] ∷ (lines.Changed (request_no 0 0 3) ∷ []) ∷ (lines.OkCreate 0 (file_id 0 0 2) ∷ []) ∷ []
    ∷ (lines.Locked (request_no 0 0 4) (file_id 0 0 2) 100 ∷ [])
    ∷ (lines.Saw (request_no 0 0 4) (file_id 0 0 2) 0 ∷ lines.Opened 0 2 0 srcs.Empty 0 ∷ []) ∷ [] ∷ [] ∷ []
    ∷ (lines.Refused (request_no 0 0 5) refusals.LockLost ∷ []) ∷ (lines.Refused (request_no 0 0 6) refusals.LockLost ∷ [])
    ∷ (lines.Lapsed 0 1 ∷ []) ∷ (lines.Lapsed 0 2 ∷ []) ∷ []

two_sessions_made : lines_of (setup 1 2) two_sessions ≡ two_sessions_lines
unfolding hex_pair
two_sessions_made = refl

two_sessions_due : due_of (setup 1 2) two_sessions ≡ two_sessions_lines
unfolding hex_pair
two_sessions_due = refl

-- only the one that is due is renewed
abbrev pub one_of_two : List Event
one_of_two =
    opened ++ events.Call 0 (calls.Create path_b) ∷ events.Space 0 ∷ events.Told 0 ∷ events.Tick 10 ∷ events.Call 0 (calls.OpenW path_b)
    ∷ events.Space 0 ∷ events.Told 0 ∷ events.Tick 40 ∷ events.Turn 0 ∷ events.Space 0 ∷ events.Space 0 ∷ events.Tick 10 ∷ events.Turn 0
    ∷ events.Space 0 ∷ events.Space 0 ∷ []

abbrev pub one_of_two_lines : List (List Line)
one_of_two_lines =
    opened_lines ++ [] ∷ (lines.Changed (request_no 0 0 3) ∷ []) ∷ (lines.OkCreate 0 (file_id 0 0 2) ∷ []) ∷ [] ∷ []
    ∷ (lines.Locked (request_no 0 0 4) (file_id 0 0 2) 110 ∷ [])
    ∷ (lines.Saw (request_no 0 0 4) (file_id 0 0 2) 0 ∷ lines.Opened 0 2 0 srcs.Empty 0 ∷ []) ∷ [] ∷ []
    ∷ (lines.Renewed (request_no 0 0 5) 150 ∷ []) ∷ (lines.Skip ∷ []) ∷ [] ∷ [] ∷ (lines.Renewed (request_no 0 0 6) 160 ∷ [])
    ∷ (lines.Skip ∷ []) ∷ []

one_of_two_made : lines_of (setup 1 2) one_of_two ≡ one_of_two_lines
unfolding hex_pair
one_of_two_made = refl

one_of_two_due : due_of (setup 1 2) one_of_two ≡ one_of_two_lines
unfolding hex_pair
one_of_two_due = refl

-- an open for writing that the clouds do not answer is renewed too; at the eighth turn that comes before the refusal, and its lock is
-- given back
abbrev pub while_reading : List Event
while_reading =
    begins ++ commits ++ events.Call 1 (calls.OpenW path_a) ∷ events.Space 1 ∷ events.Told 1 ∷ events.Turn 1 ∷ events.Turn 1
    ∷ events.Turn 1 ∷ events.Turn 1 ∷ events.Turn 1 ∷ events.Turn 1 ∷ events.Turn 1 ∷ events.Tick 55 ∷ events.Turn 1 ∷ events.Space 1
    ∷ events.Space 1 ∷ events.Told 1 ∷ events.Told 1 ∷ events.Turn 1 ∷ events.Space 1 ∷ []

abbrev pub while_reading_lines : List (List Line)
while_reading_lines =
    begins_lines ++ commits_lines ++ [] ∷ (lines.Locked (request_no 1 0 1) (file_id 0 0 1) 100 ∷ [])
    ∷ (lines.Saw (request_no 1 0 1) (file_id 0 0 1) 1 ∷ lines.Get (request_no 1 0 2) 0 n1 ∷ lines.Get (request_no 1 0 3) 1 n1 ∷ [])
    ∷ gets 4 ∷ gets 8 ∷ gets 12 ∷ gets 16 ∷ gets 20 ∷ gets 24 ∷ gets 28 ∷ [] ∷ (lines.No 1 (refusals.Unavailable 1 0) ∷ [])
    ∷ (lines.Renewed (request_no 1 0 32) 155 ∷ []) ∷ (lines.Unlocked (request_no 1 0 33) 1 ∷ []) ∷ [] ∷ [] ∷ [] ∷ (lines.Skip ∷ []) ∷ []

while_reading_made : lines_of (setup 1 2) while_reading ≡ while_reading_lines
unfolding hex_pair
while_reading_made = refl

while_reading_due : due_of (setup 1 2) while_reading ≡ while_reading_lines
unfolding hex_pair
while_reading_due = refl

-- a close that no cloud takes is renewed once before it is given up; then its lock is given back, and another agent takes the file
abbrev pub while_short : List Event
while_short =
    begins ++ events.Tick 50 ∷ events.Turn 0 ∷ events.Turn 0 ∷ events.Turn 0 ∷ events.Turn 0 ∷ events.Turn 0 ∷ events.Turn 0
    ∷ events.Turn 0 ∷ events.Turn 0 ∷ events.Space 0 ∷ events.Space 0 ∷ events.Told 0 ∷ events.Told 0 ∷ events.Tick 1 ∷ events.Turn 0
    ∷ events.Call 1 (calls.OpenW path_a) ∷ events.Space 1 ∷ events.Told 1 ∷ []

abbrev pub while_short_lines : List (List Line)
while_short_lines =
    begins_lines ++ [] ∷ puts 8 ∷ puts 12 ∷ puts 16 ∷ puts 20 ∷ puts 24 ∷ puts 28 ∷ puts 32 ∷ (lines.No 0 (refusals.Short 0) ∷ [])
    ∷ (lines.Renewed (request_no 0 0 7) 150 ∷ []) ∷ (lines.Unlocked (request_no 0 0 36) 1 ∷ []) ∷ [] ∷ [] ∷ [] ∷ [] ∷ []
    ∷ (lines.Locked (request_no 1 0 1) (file_id 0 0 1) 151 ∷ [])
    ∷ (lines.Saw (request_no 1 0 1) (file_id 0 0 1) 0 ∷ lines.Opened 1 1 0 srcs.Empty 0 ∷ []) ∷ []

while_short_made : lines_of (setup 1 2) while_short ≡ while_short_lines
unfolding hex_pair
while_short_made = refl

while_short_due : due_of (setup 1 2) while_short ≡ while_short_lines
unfolding hex_pair
while_short_due = refl
