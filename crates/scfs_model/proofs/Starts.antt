use Rattle.std.specs.Prelude.{◌≡◌, ℕ, List, [], ◌∷◌, ◌++◌, take, codes, refl}
use Rattle.scfs_base.specs.Words.{hex_pair}
use Rattle.scfs_schedule.specs.declared.types.Event.{Event}
use Rattle.scfs_schedule.specs.declared.types.Event.TheVariants as events
use Rattle.scfs_schedule.specs.declared.types.Call.TheVariants as calls
use Rattle.scfs_schedule.specs.declared.types.Kind.TheVariants as kinds
use Rattle.scfs_schedule.specs.declared.types.How.TheVariants as hows
use Rattle.scfs_schedule.specs.declared.types.Line.{Line}
use Rattle.scfs_schedule.specs.declared.types.Line.TheVariants as lines
use Rattle.scfs_schedule.specs.declared.types.Src.TheVariants as srcs
use Rattle.scfs_schedule.specs.declared.types.Sum.TheVariants as sums
use Rattle.scfs_schedule.specs.declared.types.Refusal.TheVariants as refusals
use Rattle.scfs_model.specs.Names.{request_no, file_id}
use Rattle.scfs_model.proofs.ShortFormat.{setup}
use Rattle.scfs_model.proofs.Played.{lines_of, due_of}
use Rattle.scfs_model.proofs.FirstRow.{path_a}
use Rattle.scfs_model.proofs.SharedFile.{hi, sha_of, n1, begins, begins_lines}
use Rattle.scfs_model.proofs.Clocked.{acked, acked_lines}
use Rattle.scfs_model.proofs.Renewals.{path_b, opened, opened_lines}

-- Agents that come up while requests of before are on the way.

-- the name of the objects of the first upload of incarnation 1; the path /c, and the file that agent 1 makes there
abbrev pub n2 : List ℕ
n2 = codes "u/0000000100000001/0000"

abbrev pub path_c : List ℕ
path_c = codes "/c"

-- a commit that is served after the locks were given back is refused
abbrev pub after_unlocking : List Event
after_unlocking =
    acked ++ events.Crash 0 ∷ events.Start 0 ∷ events.Later 0 ∷ events.Space 0 ∷ events.Space 0 ∷ events.Told 0 ∷ events.Told 0
    ∷ events.Call 0 (calls.Stat path_a) ∷ events.Space 0 ∷ events.Told 0 ∷ []

abbrev pub after_unlocking_lines : List (List Line)
after_unlocking_lines =
    acked_lines ++ (lines.Crashed 0 ∷ []) ∷ (lines.Started 0 1 ∷ []) ∷ [] ∷ (lines.Unlocked (request_no 0 1 1) 1 ∷ [])
    ∷ (lines.Refused (request_no 0 0 7) refusals.LockLost ∷ []) ∷ (lines.Ready 0 ∷ []) ∷ (lines.Gone (request_no 0 0 7) ∷ []) ∷ []
    ∷ (lines.Looked (request_no 0 1 2) ∷ []) ∷ (lines.OkStat 0 kinds.File (file_id 0 0 1) 0 0 hows.Fresh ∷ []) ∷ []

after_unlocking_made : lines_of (setup 1 2) after_unlocking ≡ after_unlocking_lines
unfolding hex_pair
after_unlocking_made = refl

after_unlocking_due : due_of (setup 1 2) after_unlocking ≡ after_unlocking_lines
unfolding hex_pair
after_unlocking_due = refl

-- one that is served before that is done, and the agent reads the version after its start; a Put of before is served late
abbrev pub before_unlocking : List Event
before_unlocking =
    begins ++ events.Serve 0 ∷ events.Serve 1 ∷ events.Serve 2 ∷ events.Give 0 ∷ events.Give 1 ∷ events.Give 2 ∷ events.Crash 0
    ∷ events.Start 0 ∷ events.Space 0 ∷ events.Serve 3 ∷ events.Give 3 ∷ events.Told 0 ∷ events.Space 0 ∷ events.Told 0
    ∷ events.Call 0 (calls.OpenR path_a) ∷ events.Space 0 ∷ events.Told 0 ∷ events.Serve 0 ∷ events.Give 0 ∷ events.Serve 1
    ∷ events.Give 1 ∷ events.Call 0 (calls.Read 1 0 9) ∷ []

abbrev pub before_unlocking_lines : List (List Line)
before_unlocking_lines =
    begins_lines ++ (lines.Did 0 (request_no 0 0 3) sums.Ack ∷ []) ∷ (lines.Did 1 (request_no 0 0 4) sums.Ack ∷ [])
    ∷ (lines.Did 2 (request_no 0 0 5) sums.Ack ∷ []) ∷ (lines.Gave 0 (request_no 0 0 3) sums.Ack ∷ [])
    ∷ (lines.Gave 1 (request_no 0 0 4) sums.Ack ∷ []) ∷ (lines.Gave 2 (request_no 0 0 5) sums.Ack ∷ []) ∷ (lines.Crashed 0 ∷ [])
    ∷ (lines.Started 0 1 ∷ []) ∷ (lines.Committed (request_no 0 0 7) (file_id 0 0 1) 1 ∷ [])
    ∷ (lines.Did 3 (request_no 0 0 6) sums.Ack ∷ []) ∷ (lines.Gone (request_no 0 0 6) ∷ []) ∷ (lines.Gone (request_no 0 0 7) ∷ [])
    ∷ (lines.Unlocked (request_no 0 1 1) 0 ∷ []) ∷ (lines.Ready 0 ∷ []) ∷ [] ∷ (lines.Looked (request_no 0 1 2) ∷ [])
    ∷ (lines.Saw (request_no 0 1 2) (file_id 0 0 1) 1 ∷ lines.Get (request_no 0 1 3) 0 n1 ∷ lines.Get (request_no 0 1 4) 1 n1 ∷ [])
    ∷ (lines.Did 0 (request_no 0 1 3) (sums.Bytes 170 (sha_of 0)) ∷ [])
    ∷ (lines.Gave 0 (request_no 0 1 3) (sums.Bytes 170 (sha_of 0)) ∷ [])
    ∷ (lines.Did 1 (request_no 0 1 4) (sums.Bytes 170 (sha_of 1)) ∷ [])
    ∷ (lines.Gave 1 (request_no 0 1 4) (sums.Bytes 170 (sha_of 1)) ∷ lines.Opened 0 1 1 srcs.Clouds 2 ∷ []) ∷ (lines.Data 0 1 hi ∷ [])
    ∷ []

before_unlocking_made : lines_of (setup 1 2) before_unlocking ≡ before_unlocking_lines
unfolding hex_pair
before_unlocking_made = refl

before_unlocking_due : due_of (setup 1 2) before_unlocking ≡ before_unlocking_lines
unfolding hex_pair
before_unlocking_due = refl

-- request numbers begin at 1 again: acknowledgements of the Puts of before, which have the same numbers, count for nobody
abbrev pub same_numbers : List Event
same_numbers =
    begins ++ events.Crash 0 ∷ events.Start 0 ∷ events.Space 0 ∷ events.Told 0 ∷ events.Call 0 (calls.OpenW path_a) ∷ events.Space 0
    ∷ events.Told 0 ∷ events.Call 0 (calls.Write 1 0 (0x6e ∷ 0x6f ∷ [])) ∷ events.Call 0 (calls.Close 1) ∷ events.Serve 0 ∷ events.Give 0
    ∷ events.Serve 1 ∷ events.Give 1 ∷ events.Serve 2 ∷ events.Give 2 ∷ events.Space 0 ∷ events.Serve 0 ∷ events.Give 0 ∷ events.Serve 1
    ∷ events.Give 1 ∷ events.Serve 2 ∷ events.Give 2 ∷ events.Space 0 ∷ events.Told 0 ∷ []

abbrev pub same_numbers_lines : List (List Line)
same_numbers_lines =
    begins_lines ++ (lines.Crashed 0 ∷ []) ∷ (lines.Started 0 1 ∷ []) ∷ (lines.Unlocked (request_no 0 1 1) 1 ∷ []) ∷ (lines.Ready 0 ∷ [])
    ∷ [] ∷ (lines.Locked (request_no 0 1 2) (file_id 0 0 1) 100 ∷ [])
    ∷ (lines.Saw (request_no 0 1 2) (file_id 0 0 1) 0 ∷ lines.Opened 0 1 0 srcs.Empty 0 ∷ []) ∷ (lines.OkWrite 0 1 2 ∷ [])
    ∷ (lines.Put (request_no 0 1 3) 0 n2 170 (sha_of 0) ∷ lines.Put (request_no 0 1 4) 1 n2 170 (sha_of 1)
    ∷ lines.Put (request_no 0 1 5) 2 n2 170 (sha_of 2) ∷ lines.Put (request_no 0 1 6) 3 n2 170 (sha_of 3) ∷ [])
    ∷ (lines.Did 0 (request_no 0 0 3) sums.Ack ∷ []) ∷ (lines.Gone (request_no 0 0 3) ∷ [])
    ∷ (lines.Did 1 (request_no 0 0 4) sums.Ack ∷ []) ∷ (lines.Gone (request_no 0 0 4) ∷ [])
    ∷ (lines.Did 2 (request_no 0 0 5) sums.Ack ∷ []) ∷ (lines.Gone (request_no 0 0 5) ∷ []) ∷ (lines.Skip ∷ [])
    ∷ (lines.Did 0 (request_no 0 1 3) sums.Ack ∷ []) ∷ (lines.Gave 0 (request_no 0 1 3) sums.Ack ∷ [])
    ∷ (lines.Did 1 (request_no 0 1 4) sums.Ack ∷ []) ∷ (lines.Gave 1 (request_no 0 1 4) sums.Ack ∷ [])
    ∷ (lines.Did 2 (request_no 0 1 5) sums.Ack ∷ []) ∷ (lines.Gave 2 (request_no 0 1 5) sums.Ack ∷ [])
    ∷ (lines.Committed (request_no 0 1 7) (file_id 0 0 1) 1 ∷ []) ∷ (lines.Closed 0 1 1 ∷ []) ∷ []

same_numbers_made : lines_of (setup 1 2) same_numbers ≡ same_numbers_lines
unfolding hex_pair
same_numbers_made = refl

same_numbers_due : due_of (setup 1 2) same_numbers ≡ same_numbers_lines
unfolding hex_pair
same_numbers_due = refl

-- all locks of the agent are given back, and none of another agent
abbrev pub all_of_one_agent : List Event
all_of_one_agent =
    opened ++ events.Call 0 (calls.Create path_b) ∷ events.Space 0 ∷ events.Told 0 ∷ events.Call 0 (calls.OpenW path_b) ∷ events.Space 0
    ∷ events.Told 0 ∷ events.Call 1 (calls.Create path_c) ∷ events.Space 1 ∷ events.Told 1 ∷ events.Call 1 (calls.OpenW path_c)
    ∷ events.Space 1 ∷ events.Told 1 ∷ events.Crash 0 ∷ events.Start 0 ∷ events.Space 0 ∷ events.Told 0
    ∷ events.Call 0 (calls.OpenW path_c) ∷ events.Space 0 ∷ events.Told 0 ∷ events.Call 0 (calls.OpenW path_b) ∷ events.Space 0
    ∷ events.Told 0 ∷ []

abbrev pub all_of_one_agent_lines : List (List Line)
all_of_one_agent_lines =
    opened_lines ++ [] ∷ (lines.Changed (request_no 0 0 3) ∷ []) ∷ (lines.OkCreate 0 (file_id 0 0 2) ∷ []) ∷ []
    ∷ (lines.Locked (request_no 0 0 4) (file_id 0 0 2) 100 ∷ [])
    ∷ (lines.Saw (request_no 0 0 4) (file_id 0 0 2) 0 ∷ lines.Opened 0 2 0 srcs.Empty 0 ∷ []) ∷ []
    ∷ (lines.Changed (request_no 1 0 1) ∷ []) ∷ (lines.OkCreate 1 (file_id 1 0 1) ∷ []) ∷ []
    ∷ (lines.Locked (request_no 1 0 2) (file_id 1 0 1) 100 ∷ [])
    ∷ (lines.Saw (request_no 1 0 2) (file_id 1 0 1) 0 ∷ lines.Opened 1 1 0 srcs.Empty 0 ∷ []) ∷ (lines.Crashed 0 ∷ [])
    ∷ (lines.Started 0 1 ∷ []) ∷ (lines.Unlocked (request_no 0 1 1) 2 ∷ []) ∷ (lines.Ready 0 ∷ []) ∷ []
    ∷ (lines.Refused (request_no 0 1 2) (refusals.Locked 1) ∷ []) ∷ (lines.No 0 (refusals.Locked 1) ∷ []) ∷ []
    ∷ (lines.Locked (request_no 0 1 3) (file_id 0 0 2) 100 ∷ [])
    ∷ (lines.Saw (request_no 0 1 3) (file_id 0 0 2) 0 ∷ lines.Opened 0 2 0 srcs.Empty 0 ∷ []) ∷ []

all_of_one_agent_made : lines_of (setup 1 2) all_of_one_agent ≡ all_of_one_agent_lines
unfolding hex_pair
all_of_one_agent_made = refl

all_of_one_agent_due : due_of (setup 1 2) all_of_one_agent ≡ all_of_one_agent_lines
unfolding hex_pair
all_of_one_agent_due = refl

-- two starts: the locks are given back for the second first, so the agent is ready and takes a lock, which goes when they are given back
-- for the first; its session is not renewed again
abbrev pub unlocking_late : List Event
unlocking_late =
    take 3 begins ++ events.Crash 0 ∷ events.Start 0 ∷ events.Crash 0 ∷ events.Start 0 ∷ events.Later 0 ∷ events.Space 0
    ∷ events.Told 0 ∷ events.Call 0 (calls.OpenW path_a) ∷ events.Later 0 ∷ events.Space 0 ∷ events.Told 0 ∷ events.Space 0
    ∷ events.Told 0 ∷ events.Tick 50 ∷ events.Turn 0 ∷ events.Space 0 ∷ events.Told 0 ∷ events.Turn 0 ∷ events.Space 0 ∷ []

abbrev pub unlocking_late_lines : List (List Line)
unlocking_late_lines =
    take 3 begins_lines ++ (lines.Crashed 0 ∷ []) ∷ (lines.Started 0 1 ∷ []) ∷ (lines.Crashed 0 ∷ []) ∷ (lines.Started 0 2 ∷ []) ∷ []
    ∷ (lines.Unlocked (request_no 0 2 1) 0 ∷ []) ∷ (lines.Ready 0 ∷ []) ∷ [] ∷ []
    ∷ (lines.Locked (request_no 0 2 2) (file_id 0 0 1) 100 ∷ [])
    ∷ (lines.Saw (request_no 0 2 2) (file_id 0 0 1) 0 ∷ lines.Opened 0 1 0 srcs.Empty 0 ∷ [])
    ∷ (lines.Unlocked (request_no 0 1 1) 1 ∷ []) ∷ (lines.Gone (request_no 0 1 1) ∷ []) ∷ [] ∷ []
    ∷ (lines.Refused (request_no 0 2 3) refusals.LockLost ∷ []) ∷ (lines.Lapsed 0 1 ∷ []) ∷ [] ∷ (lines.Skip ∷ []) ∷ []

unlocking_late_made : lines_of (setup 1 2) unlocking_late ≡ unlocking_late_lines
unfolding hex_pair
unlocking_late_made = refl

unlocking_late_due : due_of (setup 1 2) unlocking_late ≡ unlocking_late_lines
unfolding hex_pair
unlocking_late_due = refl
