use Rattle.std.specs.Prelude.{◌≡◌, List, [], ◌∷◌, ◌++◌, take, refl}
use Rattle.scfs_base.specs.Words.{hex_pair}
use Rattle.scfs_base.specs.declared.cloud.CloudAnswer.TheVariants as answers
use Rattle.scfs_schedule.specs.declared.types.Event.{Event}
use Rattle.scfs_schedule.specs.declared.types.Event.TheVariants as events
use Rattle.scfs_schedule.specs.declared.types.Call.TheVariants as calls
use Rattle.scfs_schedule.specs.declared.types.Kind.TheVariants as kinds
use Rattle.scfs_schedule.specs.declared.types.How.TheVariants as hows
use Rattle.scfs_schedule.specs.declared.types.Line.{Line}
use Rattle.scfs_schedule.specs.declared.types.Line.TheVariants as lines
use Rattle.scfs_schedule.specs.declared.types.Src.TheVariants as srcs
use Rattle.scfs_schedule.specs.declared.types.Sum.TheVariants as sums
use Rattle.scfs_schedule.specs.declared.types.Refusal.TheVariants as refusals
use Rattle.scfs_model.specs.Names.{request_no, file_id}
use Rattle.scfs_model.proofs.ShortFormat.{setup}
use Rattle.scfs_model.proofs.Played.{lines_of, due_of}
use Rattle.scfs_model.proofs.FirstRow.{path_a}
use Rattle.scfs_model.proofs.SharedFile.{hi, sha_of, n1, begins, begins_lines, to_open, to_open_lines}
use Rattle.scfs_model.proofs.Clocked.{acked, acked_lines}

-- Agents that go down.

-- a crash before the commit is told: the version stands, and another agent reads it
abbrev pub reply_lost : List Event
reply_lost =
    acked ++ events.Space 0 ∷ events.Crash 0 ∷ events.Told 0 ∷ events.Call 1 (calls.OpenR path_a) ∷ events.Space 1 ∷ events.Told 1
    ∷ events.Serve 0 ∷ events.Give 0 ∷ events.Serve 1 ∷ events.Give 1 ∷ events.Call 1 (calls.Read 1 0 9) ∷ []

abbrev pub reply_lost_lines : List (List Line)
reply_lost_lines =
    acked_lines ++ (lines.Committed (request_no 0 0 7) (file_id 0 0 1) 1 ∷ []) ∷ (lines.Crashed 0 ∷ [])
    ∷ (lines.Gone (request_no 0 0 7) ∷ []) ∷ [] ∷ (lines.Looked (request_no 1 0 1) ∷ [])
    ∷ (lines.Saw (request_no 1 0 1) (file_id 0 0 1) 1 ∷ lines.Get (request_no 1 0 2) 0 n1 ∷ lines.Get (request_no 1 0 3) 1 n1 ∷ [])
    ∷ (lines.Did 0 (request_no 1 0 2) (sums.Bytes 170 (sha_of 0)) ∷ [])
    ∷ (lines.Gave 0 (request_no 1 0 2) (sums.Bytes 170 (sha_of 0)) ∷ [])
    ∷ (lines.Did 1 (request_no 1 0 3) (sums.Bytes 170 (sha_of 1)) ∷ [])
    ∷ (lines.Gave 1 (request_no 1 0 3) (sums.Bytes 170 (sha_of 1)) ∷ lines.Opened 1 1 1 srcs.Clouds 2 ∷ []) ∷ (lines.Data 1 1 hi ∷ [])
    ∷ []

reply_lost_made : lines_of (setup 1 2) reply_lost ≡ reply_lost_lines
unfolding hex_pair
reply_lost_made = refl

reply_lost_due : due_of (setup 1 2) reply_lost ≡ reply_lost_lines
unfolding hex_pair
reply_lost_due = refl

-- a crash in an open that reads the clouds, of which cloud 0 was bad once: what comes to the agent while it is down is skipped, or gone
-- where it answers a request; while it starts calls are refused and a turn asks nothing; then the clouds are as good as new
abbrev pub open_lost : List Event
open_lost =
    to_open ++ events.Say 0 answers.Fail ∷ events.Give 0 ∷ events.Crash 1 ∷ events.Serve 1 ∷ events.Give 1
    ∷ events.Call 1 (calls.Stat path_a) ∷ events.Turn 1 ∷ events.Crash 1 ∷ events.Told 1 ∷ events.Start 1 ∷ events.Start 1
    ∷ events.Serve 2 ∷ events.Give 2 ∷ events.Call 1 (calls.Stat path_a) ∷ events.Call 1 (calls.Read 1 0 1)
    ∷ events.Call 1 (calls.Close 1) ∷ events.Call 1 (calls.Create path_a) ∷ events.Turn 1 ∷ events.Space 1 ∷ events.Turn 1
    ∷ events.Call 1 (calls.Stat path_a) ∷ events.Told 1 ∷ events.Call 1 (calls.OpenR path_a) ∷ events.Space 1 ∷ events.Told 1 ∷ []

abbrev pub open_lost_lines : List (List Line)
open_lost_lines =
    to_open_lines ++ (lines.Did 0 (request_no 1 0 2) sums.Fail ∷ [])
    ∷ (lines.Gave 0 (request_no 1 0 2) sums.Fail ∷ lines.Get (request_no 1 0 4) 2 n1 ∷ []) ∷ (lines.Crashed 1 ∷ [])
    ∷ (lines.Did 1 (request_no 1 0 3) (sums.Bytes 170 (sha_of 1)) ∷ []) ∷ (lines.Gone (request_no 1 0 3) ∷ []) ∷ (lines.Skip ∷ [])
    ∷ (lines.Skip ∷ []) ∷ (lines.Skip ∷ []) ∷ (lines.Skip ∷ []) ∷ (lines.Started 1 1 ∷ []) ∷ (lines.Skip ∷ [])
    ∷ (lines.Did 2 (request_no 1 0 4) (sums.Bytes 170 (sha_of 2)) ∷ []) ∷ (lines.Gone (request_no 1 0 4) ∷ [])
    ∷ (lines.No 1 (refusals.Starting 0) ∷ []) ∷ (lines.No 1 (refusals.Starting 0) ∷ []) ∷ (lines.No 1 (refusals.Starting 0) ∷ [])
    ∷ (lines.No 1 (refusals.Starting 0) ∷ []) ∷ [] ∷ (lines.Unlocked (request_no 1 1 1) 0 ∷ []) ∷ []
    ∷ (lines.No 1 (refusals.Starting 0) ∷ []) ∷ (lines.Ready 1 ∷ []) ∷ [] ∷ (lines.Looked (request_no 1 1 2) ∷ [])
    ∷ (lines.Saw (request_no 1 1 2) (file_id 0 0 1) 1 ∷ lines.Get (request_no 1 1 3) 0 n1 ∷ lines.Get (request_no 1 1 4) 1 n1 ∷ []) ∷ []

open_lost_made : lines_of (setup 1 2) open_lost ≡ open_lost_lines
unfolding hex_pair
open_lost_made = refl

open_lost_due : due_of (setup 1 2) open_lost ≡ open_lost_lines
unfolding hex_pair
open_lost_due = refl

-- a crash in a close whose upload no cloud acknowledged: session and upload are away; what a cloud answers to a Put of before is gone
abbrev pub close_lost : List Event
close_lost =
    begins ++ events.Crash 0 ∷ events.Start 0 ∷ events.Space 0 ∷ events.Told 0 ∷ events.Turn 0 ∷ events.Call 0 (calls.Read 1 0 1)
    ∷ events.Serve 0 ∷ events.Give 0 ∷ events.Call 0 (calls.Stat path_a) ∷ events.Space 0 ∷ events.Told 0 ∷ []

abbrev pub close_lost_lines : List (List Line)
close_lost_lines =
    begins_lines ++ (lines.Crashed 0 ∷ []) ∷ (lines.Started 0 1 ∷ []) ∷ (lines.Unlocked (request_no 0 1 1) 1 ∷ []) ∷ (lines.Ready 0 ∷ [])
    ∷ [] ∷ (lines.No 0 refusals.BadHandle ∷ []) ∷ (lines.Did 0 (request_no 0 0 3) sums.Ack ∷ []) ∷ (lines.Gone (request_no 0 0 3) ∷ [])
    ∷ [] ∷ (lines.Looked (request_no 0 1 2) ∷ []) ∷ (lines.OkStat 0 kinds.File (file_id 0 0 1) 0 0 hows.Fresh ∷ []) ∷ []

close_lost_made : lines_of (setup 1 2) close_lost ≡ close_lost_lines
unfolding hex_pair
close_lost_made = refl

close_lost_due : due_of (setup 1 2) close_lost ≡ close_lost_lines
unfolding hex_pair
close_lost_due = refl

-- a crash with a session open: it is away, and its lock is not renewed
abbrev pub session_lost : List Event
session_lost =
    take 7 begins ++ events.Crash 0 ∷ events.Start 0 ∷ events.Tick 50 ∷ events.Turn 0 ∷ events.Space 0 ∷ events.Told 0 ∷ events.Turn 0
    ∷ events.Space 0 ∷ events.Call 0 (calls.Read 1 0 1) ∷ []

abbrev pub session_lost_lines : List (List Line)
session_lost_lines =
    take 7 begins_lines ++ (lines.Crashed 0 ∷ []) ∷ (lines.Started 0 1 ∷ []) ∷ [] ∷ [] ∷ (lines.Unlocked (request_no 0 1 1) 1 ∷ [])
    ∷ (lines.Ready 0 ∷ []) ∷ [] ∷ (lines.Skip ∷ []) ∷ (lines.No 0 refusals.BadHandle ∷ []) ∷ []

session_lost_made : lines_of (setup 1 2) session_lost ≡ session_lost_lines
unfolding hex_pair
session_lost_made = refl

session_lost_due : due_of (setup 1 2) session_lost ≡ session_lost_lines
unfolding hex_pair
session_lost_due = refl
