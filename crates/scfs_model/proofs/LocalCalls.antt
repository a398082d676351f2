use Rattle.std.specs.Prelude.{◌≡◌, List, [], ◌∷◌, ◌++◌, codes, refl}
use Rattle.scfs_base.specs.Words.{hex_pair}
use Rattle.scfs_base.specs.declared.cloud.CloudAnswer.TheVariants as answers
use Rattle.scfs_schedule.specs.declared.types.Event.{Event}
use Rattle.scfs_schedule.specs.declared.types.Event.TheVariants as events
use Rattle.scfs_schedule.specs.declared.types.Call.TheVariants as calls
use Rattle.scfs_schedule.specs.declared.types.Kind.TheVariants as kinds
use Rattle.scfs_schedule.specs.declared.types.How.TheVariants as hows
use Rattle.scfs_schedule.specs.declared.types.Line.{Line}
use Rattle.scfs_schedule.specs.declared.types.Line.TheVariants as lines
use Rattle.scfs_schedule.specs.declared.types.Src.TheVariants as srcs
use Rattle.scfs_schedule.specs.declared.types.Sum.TheVariants as sums
use Rattle.scfs_schedule.specs.declared.types.Refusal.TheVariants as refusals
use Rattle.scfs_model.specs.Names.{root_id, request_no, file_id}
use Rattle.scfs_model.specs.Clouds.{net}
use Rattle.scfs_model.proofs.ShortFormat.{setup}
use Rattle.scfs_model.proofs.Played.{lines_of, due_of, played}
use Rattle.scfs_model.proofs.FirstRow.{path_a}
use Rattle.scfs_model.proofs.SharedFile.{hi, begins, begins_lines, read_well}

-- calls on a session: zeros before a write past the end, a cut, the refusals; names, and the root's stat
abbrev pub locals : List Event
locals =
    events.Call 0 (calls.Create path_a) ∷ events.Space 0 ∷ events.Told 0
    ∷ events.Call 0 (calls.OpenW path_a) ∷ events.Space 0 ∷ events.Told 0
    ∷ events.Call 0 (calls.Write 1 3 hi) ∷ events.Call 0 (calls.Read 1 0 10) ∷ events.Call 0 (calls.Truncate 1 4) ∷ events.Call 0 (calls.Read 1 2 1)
    ∷ events.Call 0 (calls.Write 1 65536 hi) ∷ events.Call 0 (calls.Truncate 1 65537) ∷ events.Call 0 (calls.Read 2 0 1)
    ∷ events.Call 0 (calls.Read 1 0 65537) ∷ events.Call 0 (calls.Write 1 65536 []) ∷ events.Call 0 (calls.OpenW path_a) ∷ events.Space 0 ∷ events.Told 0
    ∷ events.Call 0 (calls.OpenR path_a) ∷ events.Space 0 ∷ events.Told 0 ∷ events.Call 0 (calls.Write 3 0 hi) ∷ events.Call 0 (calls.Close 3)
    ∷ events.Call 0 (calls.Create (codes "a")) ∷ events.Call 0 (calls.OpenW (codes "/")) ∷ events.Call 0 (calls.Create (codes "//a")) ∷ events.Call 0 (calls.Create (codes "/a/b")) ∷ events.Space 0 ∷ events.Told 0
    ∷ events.Call 0 (calls.Stat (codes "/")) ∷ events.Space 0 ∷ events.Told 0 ∷ events.Call 0 (calls.Stat (codes "/b")) ∷ events.Space 0 ∷ events.Told 0
    ∷ events.Call 0 (calls.Create path_a) ∷ events.Space 0 ∷ events.Told 0 ∷ []

abbrev pub locals_lines : List (List Line)
locals_lines =
    [] ∷ (lines.Changed (request_no 0 0 1) ∷ []) ∷ (lines.OkCreate 0 (file_id 0 0 1) ∷ [])
    ∷ [] ∷ (lines.Locked (request_no 0 0 2) (file_id 0 0 1) 100 ∷ [])
    ∷ (lines.Saw (request_no 0 0 2) (file_id 0 0 1) 0 ∷ lines.Opened 0 1 0 srcs.Empty 0 ∷ [])
    ∷ (lines.OkWrite 0 1 5 ∷ []) ∷ (lines.Data 0 1 (0 ∷ 0 ∷ 0 ∷ 0x68 ∷ 0x69 ∷ []) ∷ []) ∷ (lines.OkTruncate 0 1 4 ∷ []) ∷ (lines.Data 0 1 (0 ∷ []) ∷ [])
    ∷ (lines.No 0 refusals.TooLong ∷ []) ∷ (lines.No 0 refusals.TooLong ∷ []) ∷ (lines.No 0 refusals.BadHandle ∷ [])
    ∷ (lines.No 0 refusals.TooLong ∷ []) ∷ (lines.OkWrite 0 1 4 ∷ [])
    ∷ [] ∷ (lines.Refused (request_no 0 0 3) (refusals.Locked 0) ∷ []) ∷ (lines.No 0 (refusals.Locked 0) ∷ [])
    ∷ [] ∷ (lines.Looked (request_no 0 0 4) ∷ []) ∷ (lines.Saw (request_no 0 0 4) (file_id 0 0 1) 0 ∷ lines.Opened 0 3 0 srcs.Empty 0 ∷ [])
    ∷ (lines.No 0 refusals.ReadOnly ∷ []) ∷ (lines.OkClose 0 3 ∷ [])
    ∷ (lines.No 0 refusals.BadName ∷ []) ∷ (lines.No 0 refusals.BadName ∷ []) ∷ (lines.No 0 refusals.BadName ∷ [])
    ∷ [] ∷ (lines.Refused (request_no 0 0 5) refusals.NotDir ∷ []) ∷ (lines.No 0 refusals.NotDir ∷ [])
    ∷ [] ∷ (lines.Looked (request_no 0 0 6) ∷ []) ∷ (lines.OkStat 0 kinds.Dir root_id 0 0 hows.Fresh ∷ [])
    ∷ [] ∷ (lines.Refused (request_no 0 0 7) refusals.NoEntry ∷ []) ∷ (lines.No 0 refusals.NoEntry ∷ [])
    ∷ [] ∷ (lines.Refused (request_no 0 0 8) refusals.Exists ∷ []) ∷ (lines.No 0 refusals.Exists ∷ []) ∷ []

locals_made : lines_of (setup 1 2) locals ≡ locals_lines
locals_made = refl

locals_due : due_of (setup 1 2) locals ≡ locals_lines
locals_due = refl

-- queues: a copy and a move of requests, a loss, a copy and a move of replies, a drop
abbrev pub queues : List Event
queues =
    begins
    ++ events.Again 0 ∷ events.Defer 0 ∷ events.Lose 0 ∷ events.Serve 0 ∷ events.Serve 0 ∷ events.Lose 0
    ∷ events.Twice 0 ∷ events.Drop 0 ∷ events.Swap 0 ∷ events.Give 0 ∷ events.Give 0 ∷ events.Drop 0
    ∷ events.Later 0 ∷ events.Told 1 ∷ events.Fail 1 ∷ events.Give 1 ∷ events.Hide 2 ∷ events.Say 3 answers.Ack ∷ events.Give 3 ∷ events.Give 2 ∷ events.Space 0 ∷ []

abbrev pub queues_lines : List (List Line)
queues_lines =
    begins_lines
    ++ [] ∷ [] ∷ [] ∷ (lines.Did 0 (request_no 0 0 3) sums.Ack ∷ []) ∷ (lines.Skip ∷ []) ∷ (lines.Skip ∷ [])
    ∷ [] ∷ [] ∷ [] ∷ (lines.Gave 0 (request_no 0 0 3) sums.Ack ∷ []) ∷ (lines.Skip ∷ []) ∷ (lines.Skip ∷ [])
    ∷ (lines.Skip ∷ []) ∷ (lines.Skip ∷ []) ∷ (lines.Did 1 (request_no 0 0 4) sums.Fail ∷ []) ∷ (lines.Gave 1 (request_no 0 0 4) sums.Fail ∷ [])
    ∷ (lines.Did 2 (request_no 0 0 5) sums.Ack ∷ []) ∷ (lines.Did 3 (request_no 0 0 6) sums.Ack ∷ [])
    ∷ (lines.Gave 3 (request_no 0 0 6) sums.Ack ∷ []) ∷ (lines.Gave 2 (request_no 0 0 5) sums.Ack ∷ [])
    ∷ (lines.Committed (request_no 0 0 7) (file_id 0 0 1) 1 ∷ []) ∷ []

queues_made : lines_of (setup 1 2) queues ≡ queues_lines
unfolding hex_pair
queues_made = refl

queues_due : due_of (setup 1 2) queues ≡ queues_lines
unfolding hex_pair
queues_due = refl

-- four Puts of 170 bytes, two Gets, and two objects as answers
read_well_carries : (net (setup 1 2) (played (setup 1 2) [] read_well)).carried ≡ 1404
unfolding hex_pair
read_well_carries = refl
