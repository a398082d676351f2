use Rattle.std.specs.Prelude.{◌≡◌, ℕ, ◌+◌, List, [], ◌∷◌, ◌++◌, take, replicate, slice_get, Some, refl}
use Rattle.scfs_base.specs.Words.{hex_pair}
use Rattle.scfs_base.specs.declared.cloud.CloudAnswer.TheVariants as answers
use Rattle.scfs_schedule.specs.declared.types.Event.{Event}
use Rattle.scfs_schedule.specs.declared.types.Event.TheVariants as events
use Rattle.scfs_schedule.specs.declared.types.Call.TheVariants as calls
use Rattle.scfs_schedule.specs.declared.types.Line.{Line}
use Rattle.scfs_schedule.specs.declared.types.Line.TheVariants as lines
use Rattle.scfs_schedule.specs.declared.types.Src.TheVariants as srcs
use Rattle.scfs_schedule.specs.declared.types.Sum.TheVariants as sums
use Rattle.scfs_schedule.specs.declared.types.Refusal.TheVariants as refusals
use Rattle.scfs_model.specs.Names.{request_no, upload_no, file_id}
use Rattle.scfs_model.proofs.ShortFormat.{short_object, setup}
use Rattle.scfs_model.proofs.Played.{lines_of, due_of}
use Rattle.scfs_model.proofs.FirstRow.{path_a}
use Rattle.scfs_model.proofs.SharedFile.{hi, sha_of, n1, to_open, to_open_lines}

-- cloud 0 hides, cloud 2 says a byte 0, clouds 1 and 3 serve
abbrev pub lied : List Event
lied =
    to_open
    ++ events.Hide 0 ∷ events.Give 0 ∷ events.Say 2 (answers.Bytes (0 ∷ [])) ∷ events.Give 2
    ∷ events.Serve 1 ∷ events.Give 1 ∷ events.Serve 3 ∷ events.Give 3 ∷ []

abbrev pub lied_lines : List (List Line)
lied_lines =
    to_open_lines
    ++ (lines.Did 0 (request_no 1 0 2) sums.Absent ∷ [])
    ∷ (lines.Gave 0 (request_no 1 0 2) sums.Absent ∷ lines.Get (request_no 1 0 4) 2 n1 ∷ [])
    ∷ (lines.Did 2 (request_no 1 0 4) (sums.Bytes 1 (record { 0 = 0 ∷ [] })) ∷ [])
    ∷ (lines.Gave 2 (request_no 1 0 4) (sums.Bytes 1 (record { 0 = 0 ∷ [] })) ∷ lines.Get (request_no 1 0 5) 3 n1 ∷ [])
    ∷ (lines.Did 1 (request_no 1 0 3) (sums.Bytes 170 (sha_of 1)) ∷ [])
    ∷ (lines.Gave 1 (request_no 1 0 3) (sums.Bytes 170 (sha_of 1)) ∷ [])
    ∷ (lines.Did 3 (request_no 1 0 5) (sums.Bytes 170 (sha_of 3)) ∷ [])
    ∷ (lines.Gave 3 (request_no 1 0 5) (sums.Bytes 170 (sha_of 3)) ∷ lines.Opened 1 1 1 srcs.Clouds 2 ∷ []) ∷ []

-- clouds 0 and 2 were bad once, so the next open of agent 1 asks clouds 1 and 3
abbrev pub ranked : List Event
ranked = lied ++ events.Call 1 (calls.OpenR path_a) ∷ events.Space 1 ∷ events.Told 1 ∷ []

abbrev pub ranked_lines : List (List Line)
ranked_lines =
    lied_lines
    ++ [] ∷ (lines.Looked (request_no 1 0 6) ∷ [])
    ∷ (lines.Saw (request_no 1 0 6) (file_id 0 0 1) 1 ∷ lines.Get (request_no 1 0 7) 1 n1 ∷ lines.Get (request_no 1 0 8) 3 n1 ∷ []) ∷ []

ranked_made : lines_of (setup 1 2) ranked ≡ ranked_lines
unfolding hex_pair
ranked_made = refl

ranked_due : due_of (setup 1 2) ranked ≡ ranked_lines
unfolding hex_pair
ranked_due = refl

-- one good piece and eight turns
abbrev pub silent : List Event
silent =
    to_open
    ++ events.Serve 1 ∷ events.Give 1 ∷ events.Turn 1 ∷ events.Turn 1 ∷ events.Turn 1 ∷ events.Turn 1
    ∷ events.Turn 1 ∷ events.Turn 1 ∷ events.Turn 1 ∷ events.Turn 1 ∷ []

-- Gets at the three clouds that are not good, after k − 1 requests
abbrev pub three_gets : ℕ → List Line
three_gets k = lines.Get (request_no 1 0 k) 0 n1 ∷ lines.Get (request_no 1 0 (k + 1)) 2 n1 ∷ lines.Get (request_no 1 0 (k + 2)) 3 n1 ∷ []

abbrev pub silent_lines : List (List Line)
silent_lines =
    to_open_lines
    ++ (lines.Did 1 (request_no 1 0 3) (sums.Bytes 170 (sha_of 1)) ∷ []) ∷ (lines.Gave 1 (request_no 1 0 3) (sums.Bytes 170 (sha_of 1)) ∷ [])
    ∷ three_gets 4 ∷ three_gets 7 ∷ three_gets 10 ∷ three_gets 13 ∷ three_gets 16 ∷ three_gets 19 ∷ three_gets 22
    ∷ (lines.No 1 (refusals.Unavailable 1 1) ∷ []) ∷ []

silent_made : lines_of (setup 1 2) silent ≡ silent_lines
unfolding hex_pair
silent_made = refl

silent_due : due_of (setup 1 2) silent ≡ silent_lines
unfolding hex_pair
silent_due = refl

-- the object of cloud 1 of another upload with contents of the same length, said by cloud 1: it is bad, and cloud 2 is asked
abbrev pub other_object : List Event
other_object =
    to_open ++ events.Say 1 (answers.Bytes (short_object 1 (upload_no 0 0 2) hi 1)) ∷ events.Give 1 ∷ []

other_object_is_bad :
    slice_get (lines_of (setup 1 2) other_object) 22
    ≡ Some (lines.Gave 1 (request_no 1 0 3) (sums.Bytes 170 (record { 0 = take 4 (short_object 1 (upload_no 0 0 2) hi 1) }))
    ∷ lines.Get (request_no 1 0 4) 2 n1 ∷ [])
unfolding hex_pair
other_object_is_bad = refl

-- an object of cloud 1 with other contents that the stand-in format takes for good, as a clash of digests would allow
abbrev pub forged : List ℕ
forged = 1 ∷ 0 ∷ 1 ∷ 2 ∷ 0x6e ∷ 0x6f ∷ replicate 164 0

abbrev pub clash : List Event
clash =
    to_open
    ++ events.Say 0 (answers.Bytes (0 ∷ 0 ∷ 1 ∷ 2 ∷ 0x6e ∷ 0x6f ∷ replicate 164 0)) ∷ events.Give 0
    ∷ events.Say 1 (answers.Bytes forged) ∷ events.Give 1 ∷ events.Call 1 (calls.Read 1 0 10) ∷ []

-- the agent shows the bytes that came, and the file map those of the close
clash_made : slice_get (lines_of (setup 1 2) clash) 25 ≡ Some (lines.Data 1 1 (0x6e ∷ 0x6f ∷ []) ∷ [])
unfolding hex_pair
clash_made = refl

clash_due : slice_get (due_of (setup 1 2) clash) 25 ≡ Some (lines.Data 1 1 hi ∷ [])
unfolding hex_pair
clash_due = refl
