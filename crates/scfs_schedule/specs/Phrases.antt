use Rattle.std.specs.Prelude.{ℕ, List, ◌∷◌, ◌++◌, codes}
use Rattle.std.specs.Fmt.{decimal}
use Rattle.scfs_base.specs.Words.{path_word, hex_text, hex_word}
use Rattle.scfs_schedule.specs.Text.{request_text, upload_text, refusal_text, sum_text, source_text, kind_text, how_text}
use Rattle.scfs_schedule.specs.declared.phrases.OfRequest.{OfRequest}
use Rattle.scfs_schedule.specs.declared.phrases.OfRequest.TheVariants as of_requests
use Rattle.scfs_schedule.specs.declared.phrases.OfCloud.{OfCloud}
use Rattle.scfs_schedule.specs.declared.phrases.OfCloud.TheVariants as of_clouds
use Rattle.scfs_schedule.specs.declared.phrases.OfAgent.{OfAgent}
use Rattle.scfs_schedule.specs.declared.phrases.OfAgent.TheVariants as of_agents
use Rattle.scfs_schedule.specs.declared.phrases.OfCall.{OfCall}
use Rattle.scfs_schedule.specs.declared.phrases.OfCall.TheVariants as of_calls
use Rattle.scfs_schedule.specs.declared.phrases.Phrase.{Phrase}
use Rattle.scfs_schedule.specs.declared.phrases.Phrase.TheVariants as phrases

-- what the space says of a request
abbrev pub of_request_text : OfRequest → List ℕ
of_request_text (of_requests.Alone word request) = word.now ++ 32 ∷ request_text request.now
of_request_text (of_requests.Count word request count) = word.now ++ 32 ∷ request_text request.now ++ 32 ∷ decimal count
of_request_text (of_requests.File word request file count) = word.now ++ 32 ∷ request_text request.now ++ 32 ∷ decimal file ++ 32 ∷ decimal count
of_request_text (of_requests.Refused request why) = codes "refused " ++ request_text request.now ++ 32 ∷ refusal_text why.now

-- what is asked of a cloud, and what comes of it
abbrev pub of_cloud_text : OfCloud → List ℕ
of_cloud_text (of_clouds.Answer word cloud request sum) = word.now ++ 32 ∷ decimal cloud ++ 32 ∷ request_text request.now ++ 32 ∷ sum_text sum.now
of_cloud_text (of_clouds.Put request cloud name length digest) = codes "put " ++ request_text request.now ++ 32 ∷ decimal cloud ++ 32 ∷ path_word name.now ++ 32 ∷ decimal length ++ 32 ∷ hex_word digest.now
of_cloud_text (of_clouds.Name word request cloud name) = word.now ++ 32 ∷ request_text request.now ++ 32 ∷ decimal cloud ++ 32 ∷ path_word name.now

-- what an agent says
abbrev pub of_agent_text : OfAgent → List ℕ
of_agent_text (of_agents.Alone word agent) = word.now ++ 32 ∷ decimal agent
of_agent_text (of_agents.One word agent first) = word.now ++ 32 ∷ decimal agent ++ 32 ∷ decimal first
of_agent_text (of_agents.Two word agent first second) = word.now ++ 32 ∷ decimal agent ++ 32 ∷ decimal first ++ 32 ∷ decimal second
of_agent_text (of_agents.Opened agent session version source length) = codes "opened " ++ decimal agent ++ 32 ∷ decimal session ++ 32 ∷ decimal version ++ 32 ∷ source_text source ++ 32 ∷ decimal length
of_agent_text (of_agents.Name agent name) = codes "name " ++ decimal agent ++ 32 ∷ path_word name.now
of_agent_text (of_agents.Data agent session bytes) = codes "data " ++ decimal agent ++ 32 ∷ decimal session ++ 32 ∷ hex_text bytes.now
of_agent_text (of_agents.Version agent version length upload digest) = codes "version " ++ decimal agent ++ 32 ∷ decimal version ++ 32 ∷ decimal length ++ 32 ∷ upload_text upload.now ++ 32 ∷ hex_word digest.now
of_agent_text (of_agents.No agent why) = codes "no " ++ decimal agent ++ 32 ∷ refusal_text why.now
of_agent_text (of_agents.AdoptedNone agent) = codes "adopted " ++ decimal agent ++ codes " none"

-- what an agent says of a call that it did
abbrev pub of_call_text : OfCall → List ℕ
of_call_text (of_calls.Alone agent word) = codes "ok " ++ decimal agent ++ 32 ∷ word.now
of_call_text (of_calls.One agent word first) = codes "ok " ++ decimal agent ++ 32 ∷ (word.now ++ 32 ∷ decimal first)
of_call_text (of_calls.Two agent word first second) = codes "ok " ++ decimal agent ++ 32 ∷ (word.now ++ 32 ∷ decimal first ++ 32 ∷ decimal second)
of_call_text (of_calls.Stat agent kind file version length how) = codes "ok " ++ decimal agent ++ codes " stat " ++ kind_text kind ++ 32 ∷ decimal file ++ 32 ∷ decimal version ++ 32 ∷ decimal length ++ 32 ∷ how_text how
of_call_text (of_calls.List agent count how) = codes "ok " ++ decimal agent ++ codes " list " ++ decimal count ++ 32 ∷ how_text how

abbrev pub phrase_text : Phrase → List ℕ
phrase_text phrases.Skip = codes "skip"
phrase_text (phrases.Request phrase) = of_request_text phrase
phrase_text (phrases.Cloud phrase) = of_cloud_text phrase
phrase_text (phrases.Agent phrase) = of_agent_text phrase
phrase_text (phrases.Call phrase) = of_call_text phrase
