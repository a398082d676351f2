use Rattle.std.specs.Prelude.{ℕ, List, [], ◌∷◌, ◌++◌, Option, Some, None}
use Rattle.std.specs.List.{flat_map}
use Rattle.scfs_base.specs.declared.cloud.CloudAnswer.{CloudAnswer}
use Rattle.scfs_base.specs.declared.cloud.CloudAnswer.TheVariants as answers
use Rattle.scfs_base.specs.declared.cloud.CloudRequest.{CloudRequest}
use Rattle.scfs_base.specs.declared.cloud.CloudRequest.TheVariants as requests
use Rattle.scfs_schedule.specs.declared.types.Header.{Header}
use Rattle.scfs_unit.specs.Clash.{blocks_of_answer}
use Rattle.scfs_unit.specs.Clash as unit
use Rattle.scfs_model.specs.UnitFormat.{under}
use Rattle.scfs_model.specs.History.{Message, Of_request, Of_answer, Entry, History}
use Rattle.scfs_model.specs.Agents.{Sent}
use Rattle.scfs_model.specs.Events.{Place, Agent_has, Space_has, Cloud_has, Clock_has, Request_answered, Answer_given, Message_moved, place_of}
use Rattle.scfs_model.specs.Layers.{rows}
use Rattle.scfs_model.specs.Runs.{effect_after}

-- What is digested of the objects of a history: of each object that an agent put, and of all bytes that a cloud answered, its manifest, and
-- its piece with the number of the cloud.

abbrev pub blocks_asked : (f c : ℕ) → CloudRequest → List (List ℕ)
blocks_asked f c (requests.Put name body) = blocks_of_answer f c body
blocks_asked f c (requests.Get name limit) = []
blocks_asked f c (requests.Delete name) = []
blocks_asked f c (requests.List prefix) = []

abbrev pub blocks_sent : (f : ℕ) → List Sent → List (List ℕ)
blocks_sent f sent = flat_map (λ (x : Sent). blocks_asked f x.cloud x.body) sent

abbrev pub blocks_answered : (f c : ℕ) → CloudAnswer → List (List ℕ)
blocks_answered f c answers.Ack = []
blocks_answered f c answers.Absent = []
blocks_answered f c (answers.Bytes bytes) = blocks_of_answer f c bytes
blocks_answered f c (answers.Names names) = []
blocks_answered f c answers.Fail = []

abbrev pub blocks_made : (f c : ℕ) → Option Message → List (List ℕ)
blocks_made f c None = []
blocks_made f c (Some (Of_request request)) = []
blocks_made f c (Some (Of_answer request answer)) = blocks_answered f c answer

-- an answer is made where a cloud answers a request, and nowhere else
abbrev pub blocks_at : (f : ℕ) → Option Message → Place → List (List ℕ)
blocks_at f message (Agent_has a x) = []
blocks_at f message (Space_has a x) = []
blocks_at f message (Cloud_has c Request_answered) = blocks_made f c message
blocks_at f message (Cloud_has c Answer_given) = []
blocks_at f message (Cloud_has c Message_moved) = []
blocks_at f message (Clock_has ticks) = []

-- those of an event after a history
abbrev pub new_blocks : Header → History → Entry → List (List ℕ)
new_blocks header past e =
    blocks_at header.f e.message (place_of e.event) ++ blocks_sent header.f (effect_after (under header) rows past e).sent

abbrev pub blocks : Header → History → List (List ℕ)
blocks header [] = []
blocks header (e ∷ past) = new_blocks header past e ++ blocks header past

-- no two different blocks of a history share a digest
abbrev pub NoClash : Header → History → Type 0
NoClash header past = unit.NoClash (blocks header past)
