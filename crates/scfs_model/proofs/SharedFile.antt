use Rattle.std.specs.Prelude.{◌≡◌, ℕ, List, [], ◌∷◌, ◌++◌, codes, take, refl}
use Rattle.scfs_base.specs.Words.{hex_pair}
use Rattle.scfs_base.specs.declared.naming.Digest.{Digest}
use Rattle.scfs_schedule.specs.declared.types.Event.{Event}
use Rattle.scfs_schedule.specs.declared.types.Event.TheVariants as events
use Rattle.scfs_schedule.specs.declared.types.Call.TheVariants as calls
use Rattle.scfs_schedule.specs.declared.types.Line.{Line}
use Rattle.scfs_schedule.specs.declared.types.Line.TheVariants as lines
use Rattle.scfs_schedule.specs.declared.types.Src.TheVariants as srcs
use Rattle.scfs_schedule.specs.declared.types.Kind.TheVariants as kinds
use Rattle.scfs_schedule.specs.declared.types.How.TheVariants as hows
use Rattle.scfs_schedule.specs.declared.types.Sum.TheVariants as sums
use Rattle.scfs_model.specs.Names.{request_no, upload_no, file_id}
use Rattle.scfs_model.proofs.ShortFormat.{short_object, setup}
use Rattle.scfs_model.proofs.Played.{lines_of, due_of}
use Rattle.scfs_model.proofs.FirstRow.{path_a}

-- the bytes 6869, the digests of the objects that they are sealed to, and the name of these
abbrev pub hi : List ℕ
hi = 0x68 ∷ 0x69 ∷ []

abbrev pub sha_of : ℕ → Digest
sha_of c = record { 0 = take 4 (short_object 1 (upload_no 0 0 1) hi c) }

abbrev pub n1 : List ℕ
n1 = codes "u/0000000000000001/0000"

-- the first eight events: a file is made, opened for writing, written and closed
abbrev pub begins : List Event
begins =
    events.Call 0 (calls.Create path_a) ∷ events.Space 0 ∷ events.Told 0
    ∷ events.Call 0 (calls.OpenW path_a) ∷ events.Space 0 ∷ events.Told 0
    ∷ events.Call 0 (calls.Write 1 0 hi) ∷ events.Call 0 (calls.Close 1) ∷ []

abbrev pub begins_lines : List (List Line)
begins_lines =
    [] ∷ (lines.Changed (request_no 0 0 1) ∷ []) ∷ (lines.OkCreate 0 (file_id 0 0 1) ∷ [])
    ∷ [] ∷ (lines.Locked (request_no 0 0 2) (file_id 0 0 1) 100 ∷ [])
    ∷ (lines.Saw (request_no 0 0 2) (file_id 0 0 1) 0 ∷ lines.Opened 0 1 0 srcs.Empty 0 ∷ [])
    ∷ (lines.OkWrite 0 1 2 ∷ [])
    ∷ (lines.Put (request_no 0 0 3) 0 n1 170 (sha_of 0) ∷ lines.Put (request_no 0 0 4) 1 n1 170 (sha_of 1)
    ∷ lines.Put (request_no 0 0 5) 2 n1 170 (sha_of 2) ∷ lines.Put (request_no 0 0 6) 3 n1 170 (sha_of 3) ∷ [])
    ∷ []

-- events 9 to 18: four acknowledgements, the commit
abbrev pub commits : List Event
commits =
    events.Serve 0 ∷ events.Serve 1 ∷ events.Serve 2 ∷ events.Serve 3
    ∷ events.Give 0 ∷ events.Give 1 ∷ events.Give 2 ∷ events.Give 3 ∷ events.Space 0 ∷ events.Told 0 ∷ []

abbrev pub commits_lines : List (List Line)
commits_lines =
    (lines.Did 0 (request_no 0 0 3) sums.Ack ∷ []) ∷ (lines.Did 1 (request_no 0 0 4) sums.Ack ∷ [])
    ∷ (lines.Did 2 (request_no 0 0 5) sums.Ack ∷ []) ∷ (lines.Did 3 (request_no 0 0 6) sums.Ack ∷ [])
    ∷ (lines.Gave 0 (request_no 0 0 3) sums.Ack ∷ []) ∷ (lines.Gave 1 (request_no 0 0 4) sums.Ack ∷ [])
    ∷ (lines.Gave 2 (request_no 0 0 5) sums.Ack ∷ []) ∷ (lines.Gave 3 (request_no 0 0 6) sums.Ack ∷ [])
    ∷ (lines.Committed (request_no 0 0 7) (file_id 0 0 1) 1 ∷ []) ∷ (lines.Closed 0 1 1 ∷ []) ∷ []

-- events 19 to 21: another agent opens
abbrev pub opens : List Event
opens = events.Call 1 (calls.OpenR path_a) ∷ events.Space 1 ∷ events.Told 1 ∷ []

abbrev pub opens_lines : List (List Line)
opens_lines =
    [] ∷ (lines.Looked (request_no 1 0 1) ∷ [])
    ∷ (lines.Saw (request_no 1 0 1) (file_id 0 0 1) 1 ∷ lines.Get (request_no 1 0 2) 0 n1 ∷ lines.Get (request_no 1 0 3) 1 n1 ∷ []) ∷ []

abbrev pub to_open : List Event
to_open = begins ++ commits ++ opens

abbrev pub to_open_lines : List (List Line)
to_open_lines = begins_lines ++ commits_lines ++ opens_lines

-- events 22 to 26: two clouds serve, and it reads
abbrev pub read_well : List Event
read_well = to_open ++ events.Serve 0 ∷ events.Give 0 ∷ events.Serve 1 ∷ events.Give 1 ∷ events.Call 1 (calls.Read 1 0 10) ∷ []

abbrev pub read_well_lines : List (List Line)
read_well_lines =
    to_open_lines
    ++ (lines.Did 0 (request_no 1 0 2) (sums.Bytes 170 (sha_of 0)) ∷ []) ∷ (lines.Gave 0 (request_no 1 0 2) (sums.Bytes 170 (sha_of 0)) ∷ [])
    ∷ (lines.Did 1 (request_no 1 0 3) (sums.Bytes 170 (sha_of 1)) ∷ [])
    ∷ (lines.Gave 1 (request_no 1 0 3) (sums.Bytes 170 (sha_of 1)) ∷ lines.Opened 1 1 1 srcs.Clouds 2 ∷ [])
    ∷ (lines.Data 1 1 hi ∷ []) ∷ []

read_well_made : lines_of (setup 1 2) read_well ≡ read_well_lines
unfolding hex_pair
read_well_made = refl

read_well_due : due_of (setup 1 2) read_well ≡ read_well_lines
unfolding hex_pair
read_well_due = refl

-- an agent that asks what the file is finds the version and the size that were committed
abbrev pub looks : List Event
looks = begins ++ commits ++ events.Call 1 (calls.Stat path_a) ∷ events.Space 1 ∷ events.Told 1 ∷ []

abbrev pub looks_lines : List (List Line)
looks_lines =
    begins_lines
    ++ commits_lines ++ [] ∷ (lines.Looked (request_no 1 0 1) ∷ []) ∷ (lines.OkStat 1 kinds.File (file_id 0 0 1) 1 2 hows.Fresh ∷ []) ∷ []

looks_made : lines_of (setup 1 2) looks ≡ looks_lines
unfolding hex_pair
looks_made = refl

looks_due : due_of (setup 1 2) looks ≡ looks_lines
unfolding hex_pair
looks_due = refl

-- a cloud that answers one request twice is one cloud: the second answer opens nothing
abbrev pub answered_twice : List Event
answered_twice =
    to_open ++ events.Serve 0 ∷ events.Twice 0 ∷ events.Give 0 ∷ events.Give 0 ∷ events.Serve 1 ∷ events.Give 1 ∷ []

abbrev pub answered_twice_lines : List (List Line)
answered_twice_lines =
    to_open_lines
    ++ (lines.Did 0 (request_no 1 0 2) (sums.Bytes 170 (sha_of 0)) ∷ []) ∷ []
    ∷ (lines.Gave 0 (request_no 1 0 2) (sums.Bytes 170 (sha_of 0)) ∷ []) ∷ (lines.Gave 0 (request_no 1 0 2) (sums.Bytes 170 (sha_of 0)) ∷ [])
    ∷ (lines.Did 1 (request_no 1 0 3) (sums.Bytes 170 (sha_of 1)) ∷ [])
    ∷ (lines.Gave 1 (request_no 1 0 3) (sums.Bytes 170 (sha_of 1)) ∷ lines.Opened 1 1 1 srcs.Clouds 2 ∷ []) ∷ []

answered_twice_made : lines_of (setup 1 2) answered_twice ≡ answered_twice_lines
unfolding hex_pair
answered_twice_made = refl

answered_twice_due : due_of (setup 1 2) answered_twice ≡ answered_twice_lines
unfolding hex_pair
answered_twice_due = refl
