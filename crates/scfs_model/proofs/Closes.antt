use Rattle.std.specs.Prelude.{◌≡◌, ℕ, ◌+◌, List, [], ◌∷◌, ◌++◌, take, map, flat_map, refl}
use Rattle.scfs_base.specs.Words.{hex_pair}
use Rattle.scfs_base.specs.declared.naming.Digest.{Digest}
use Rattle.scfs_schedule.specs.declared.types.Event.{Event}
use Rattle.scfs_schedule.specs.declared.types.Event.TheVariants as events
use Rattle.scfs_schedule.specs.declared.types.Call.TheVariants as calls
use Rattle.scfs_schedule.specs.declared.types.Line.{Line}
use Rattle.scfs_schedule.specs.declared.types.Line.TheVariants as lines
use Rattle.scfs_schedule.specs.declared.types.Src.TheVariants as srcs
use Rattle.scfs_schedule.specs.declared.types.Sum.TheVariants as sums
use Rattle.scfs_schedule.specs.declared.types.Refusal.TheVariants as refusals
use Rattle.scfs_model.specs.Lists.{below}
use Rattle.scfs_model.specs.Names.{request_no, upload_no, file_id}
use Rattle.scfs_model.proofs.ShortFormat.{short_object, setup}
use Rattle.scfs_model.proofs.Played.{lines_of, due_of}
use Rattle.scfs_model.proofs.FirstRow.{path_a}
use Rattle.scfs_model.proofs.SharedFile.{sha_of, n1, begins, begins_lines}

-- an acknowledgement that comes twice counts once
abbrev pub twice : List Event
twice =
    begins
    ++ events.Serve 0 ∷ events.Twice 0 ∷ events.Give 0 ∷ events.Give 0 ∷ events.Serve 1 ∷ events.Give 1
    ∷ events.Space 0 ∷ events.Serve 3 ∷ events.Give 3 ∷ events.Space 0 ∷ []

abbrev pub twice_lines : List (List Line)
twice_lines =
    begins_lines
    ++ (lines.Did 0 (request_no 0 0 3) sums.Ack ∷ []) ∷ [] ∷ (lines.Gave 0 (request_no 0 0 3) sums.Ack ∷ [])
    ∷ (lines.Gave 0 (request_no 0 0 3) sums.Ack ∷ [])
    ∷ (lines.Did 1 (request_no 0 0 4) sums.Ack ∷ []) ∷ (lines.Gave 1 (request_no 0 0 4) sums.Ack ∷ [])
    ∷ (lines.Skip ∷ []) ∷ (lines.Did 3 (request_no 0 0 6) sums.Ack ∷ []) ∷ (lines.Gave 3 (request_no 0 0 6) sums.Ack ∷ [])
    ∷ (lines.Committed (request_no 0 0 7) (file_id 0 0 1) 1 ∷ []) ∷ []

twice_made : lines_of (setup 1 2) twice ≡ twice_lines
unfolding hex_pair
twice_made = refl

twice_due : due_of (setup 1 2) twice ≡ twice_lines
unfolding hex_pair
twice_due = refl

-- a close that two clouds acknowledge: seven turns ask again, the eighth is short and gives the lock back; agent 1 finds the file
-- locked before the space served that, and not after
abbrev pub shorts : List Event
shorts =
    begins
    ++ events.Serve 0 ∷ events.Give 0 ∷ events.Serve 2 ∷ events.Give 2
    ∷ events.Call 0 (calls.Stat path_a)
    ∷ events.Turn 0 ∷ events.Turn 0 ∷ events.Turn 0 ∷ events.Turn 0 ∷ events.Turn 0 ∷ events.Turn 0 ∷ events.Turn 0 ∷ events.Turn 0
    ∷ events.Call 1 (calls.OpenW path_a) ∷ events.Space 1 ∷ events.Told 1
    ∷ events.Space 0 ∷ events.Told 0 ∷ events.Serve 1 ∷ events.Give 1 ∷ events.Turn 0
    ∷ events.Call 1 (calls.OpenW path_a) ∷ events.Space 1 ∷ events.Told 1 ∷ []

abbrev pub two_puts : ℕ → List Line
two_puts k = lines.Put (request_no 0 0 k) 1 n1 170 (sha_of 1) ∷ lines.Put (request_no 0 0 (k + 1)) 3 n1 170 (sha_of 3) ∷ []

abbrev pub shorts_lines : List (List Line)
shorts_lines =
    begins_lines
    ++ (lines.Did 0 (request_no 0 0 3) sums.Ack ∷ []) ∷ (lines.Gave 0 (request_no 0 0 3) sums.Ack ∷ [])
    ∷ (lines.Did 2 (request_no 0 0 5) sums.Ack ∷ []) ∷ (lines.Gave 2 (request_no 0 0 5) sums.Ack ∷ [])
    ∷ (lines.No 0 refusals.Busy ∷ [])
    ∷ two_puts 7 ∷ two_puts 9 ∷ two_puts 11 ∷ two_puts 13 ∷ two_puts 15 ∷ two_puts 17 ∷ two_puts 19
    ∷ (lines.No 0 (refusals.Short 2) ∷ [])
    ∷ [] ∷ (lines.Refused (request_no 1 0 1) (refusals.Locked 0) ∷ []) ∷ (lines.No 1 (refusals.Locked 0) ∷ [])
    ∷ (lines.Unlocked (request_no 0 0 21) 1 ∷ []) ∷ []
    ∷ (lines.Did 1 (request_no 0 0 4) sums.Ack ∷ []) ∷ (lines.Gave 1 (request_no 0 0 4) sums.Ack ∷ []) ∷ []
    ∷ [] ∷ (lines.Locked (request_no 1 0 2) (file_id 0 0 1) 100 ∷ [])
    ∷ (lines.Saw (request_no 1 0 2) (file_id 0 0 1) 0 ∷ lines.Opened 1 2 0 srcs.Empty 0 ∷ []) ∷ []

shorts_made : lines_of (setup 1 2) shorts ≡ shorts_lines
unfolding hex_pair
shorts_made = refl

shorts_due : due_of (setup 1 2) shorts ≡ shorts_lines
unfolding hex_pair
shorts_due = refl

-- ten clouds: a file is made, opened for writing and closed without a write; ten Puts, all served, seven acknowledgements given; the
-- commit; agent 1 opens; four clouds serve
abbrev pub ten_clouds : List Event
ten_clouds =
    events.Call 0 (calls.Create path_a) ∷ events.Space 0 ∷ events.Told 0
    ∷ events.Call 0 (calls.OpenW path_a) ∷ events.Space 0 ∷ events.Told 0 ∷ events.Call 0 (calls.Close 1) ∷ []
    ++ map (λ c. events.Serve c) (below 10) ++ map (λ c. events.Give c) (below 7) ++ events.Space 0 ∷ events.Told 0
    ∷ events.Call 1 (calls.OpenR path_a) ∷ events.Space 1 ∷ events.Told 1 ∷ []
    ++ map (λ c. events.Drop c) (7 ∷ 8 ∷ 9 ∷ [])
    ++ flat_map (λ c. events.Serve c ∷ events.Give c ∷ []) (below 4)

abbrev pub empty_sha : ℕ → Digest
empty_sha c = record { 0 = take 4 (short_object 3 (upload_no 0 0 1) [] c) }

abbrev pub ten_clouds_lines : List (List Line)
ten_clouds_lines =
    [] ∷ (lines.Changed (request_no 0 0 1) ∷ []) ∷ (lines.OkCreate 0 (file_id 0 0 1) ∷ [])
    ∷ [] ∷ (lines.Locked (request_no 0 0 2) (file_id 0 0 1) 100 ∷ [])
    ∷ (lines.Saw (request_no 0 0 2) (file_id 0 0 1) 0 ∷ lines.Opened 0 1 0 srcs.Empty 0 ∷ [])
    ∷ map (λ c. lines.Put (request_no 0 0 (3 + c)) c n1 361 (empty_sha c)) (below 10)
    ∷ []
    ++ map (λ c. lines.Did c (request_no 0 0 (3 + c)) sums.Ack ∷ []) (below 10)
    ++ map (λ c. lines.Gave c (request_no 0 0 (3 + c)) sums.Ack ∷ []) (below 7)
    ++ (lines.Committed (request_no 0 0 13) (file_id 0 0 1) 1 ∷ []) ∷ (lines.Closed 0 1 1 ∷ [])
    ∷ [] ∷ (lines.Looked (request_no 1 0 1) ∷ [])
    ∷ (lines.Saw (request_no 1 0 1) (file_id 0 0 1) 1 ∷ map (λ c. lines.Get (request_no 1 0 (2 + c)) c n1) (below 4))
    ∷ [] ∷ [] ∷ [] ∷ []
    ++ flat_map (λ c. (lines.Did c (request_no 1 0 (2 + c)) (sums.Bytes 361 (empty_sha c)) ∷ [])
    ∷ (lines.Gave c (request_no 1 0 (2 + c)) (sums.Bytes 361 (empty_sha c)) ∷ []) ∷ []) (below 3)
    ++ (lines.Did 3 (request_no 1 0 5) (sums.Bytes 361 (empty_sha 3)) ∷ [])
    ∷ (lines.Gave 3 (request_no 1 0 5) (sums.Bytes 361 (empty_sha 3)) ∷ lines.Opened 1 1 1 srcs.Clouds 0 ∷ []) ∷ []

ten_clouds_made : lines_of (setup 3 2) ten_clouds ≡ ten_clouds_lines
unfolding hex_pair
ten_clouds_made = refl

ten_clouds_due : due_of (setup 3 2) ten_clouds ≡ ten_clouds_lines
unfolding hex_pair
ten_clouds_due = refl
