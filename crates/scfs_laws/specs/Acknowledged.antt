use Rattle.std.specs.Prelude.{◌≡◌, ◌≢◌, ◌⊎◌, ℕ, ◌<◌, ◌≤◌, List, [], ◌∷◌, ◌++◌, length, Some, All, Contains, slice_get}
use Rattle.std.specs.List.{AllPairs}
use Rattle.scfs_base.specs.declared.naming.FileId.{FileId}
use Rattle.scfs_base.specs.declared.naming.RequestNo.{RequestNo}
use Rattle.scfs_base.specs.declared.naming.UploadNo.{UploadNo}
use Rattle.scfs_base.specs.declared.cloud.CloudAnswer.TheVariants as answers
use Rattle.scfs_base.specs.declared.cloud.CloudRequest.{CloudRequest}
use Rattle.scfs_base.specs.declared.cloud.CloudRequest.TheVariants as requests
use Rattle.scfs_schedule.specs.declared.types.Event.TheVariants as events
use Rattle.scfs_schedule.specs.declared.types.Line.TheVariants as lines
use Rattle.scfs_schedule.specs.declared.types.Sum.TheVariants as sums
use Rattle.scfs_model.specs.Names.{upload_name}
use Rattle.scfs_model.specs.Format.{Setup, clouds_of, enough, sealed, object_at}
use Rattle.scfs_model.specs.History.{Of_answer, Entry, History}
use Rattle.scfs_model.specs.Agents.{Upload, Closed, Sent}
use Rattle.scfs_model.specs.States.{Seat}
use Rattle.scfs_model.specs.Layers.{Row, Version, rows, row_of}
use Rattle.scfs_model.specs.Runs.{effect_after, actual}

-- A close is completed on objects that enough clouds acknowledged.

-- an agent made this request of a cloud
abbrev pub WasSent : Setup → History → Sent → Type 0
WasSent s [] x = ⊥
WasSent s (e ∷ past) x = Contains (effect_after s rows past e).sent x ⊎ WasSent s past x

-- in an event an agent was given, in this incarnation, cloud c's acknowledgement of this request, which it had made of c
abbrev pub IsAcked : Setup → Entry → History → (a incarnation : ℕ) → CloudRequest → (c : ℕ) → Type 0
IsAcked s e past a incarnation body c =
    (request : RequestNo) × (request.agent ≡ a) × (request.incarnation ≡ incarnation) × (e.event ≡ events.Give c)
    × (e.message ≡ Some (Of_answer request answers.Ack)) × Contains e.lines (lines.Gave c request sums.Ack)
    × WasSent s past (record { number = request; cloud = c; body = body })

abbrev pub WasAcked : Setup → History → (a incarnation : ℕ) → CloudRequest → (c : ℕ) → Type 0
WasAcked s [] a incarnation body c = ⊥
WasAcked s (e ∷ past) a incarnation body c = IsAcked s e past a incarnation body c ⊎ WasAcked s past a incarnation body c

-- after a history an agent has a closed session with these contents, and this is its upload
abbrev pub IsUploading : Setup → History → (a : ℕ) → UploadNo → (contents : List ℕ) → Type 0
IsUploading s past a u contents =
    (seat : Seat Row) × (x : Closed Row) × (begun : Upload Row) × (slice_get (actual s past).seats a ≡ Some seat)
    × Contains seat.agent.closed x × (x.upload ≡ Some begun) × (begun.version.upload ≡ u) × (x.session.contents ≡ contents)

-- after it, or after one that it goes on from
abbrev pub WasUploading : Setup → History → (a : ℕ) → UploadNo → (contents : List ℕ) → Type 0
WasUploading s [] a u contents = IsUploading s [] a u contents
WasUploading s (e ∷ past) a u contents = IsUploading s (e ∷ past) a u contents ⊎ WasUploading s past a u contents

-- the Put of cloud c's object of these contents, as this upload seals them
abbrev pub put_of : Setup → UploadNo → (contents : List ℕ) → (c : ℕ) → CloudRequest
put_of s u contents c = requests.Put (upload_name u) (object_at (sealed s u contents) c)

-- the version that a commit puts into the tree is the close of a session of the agent that asked the commit, and all clouds but f had
-- acknowledged their objects of it to that agent in that incarnation
pub record IsAcknowledged (s : Setup) (e : Entry) (past : History) (request : RequestNo) (file : FileId) (number : ℕ) : Type 0 where
  pub close : Version
  pub is_put : (actual s (e ∷ past)).tree.versions ≡ (actual s past).tree.versions ++ row_of s close ∷ []
  pub of_file : close.file ≡ file
  pub of_number : close.number ≡ number
  pub was_uploading : WasUploading s past request.agent close.upload close.bytes
  pub clouds : List ℕ
  pub differ : AllPairs (λ c d. c ≢ d) clouds
  pub are_enough : enough s ≤ length clouds
  pub acked :
      All (λ c. (c < clouds_of s) × WasAcked s past request.agent request.incarnation (put_of s close.upload close.bytes c) c) clouds

-- each committed line of a history
abbrev pub CommitsAreAcknowledged : Setup → History → Type 0
CommitsAreAcknowledged s [] = Unit {0}
CommitsAreAcknowledged s (e ∷ past) =
    ((request : RequestNo) (file : FileId) (number : ℕ) → Contains e.lines (lines.Committed request file number)
    → IsAcknowledged s e past request file number)
    × CommitsAreAcknowledged s past
