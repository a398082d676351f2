use Rattle.std.specs.Prelude.{ℕ, ◌+◌, List, ◌++◌, map}
use Rattle.scfs_base.specs.declared.naming.UploadNo.{UploadNo}
use Rattle.scfs_base.specs.declared.cloud.CloudRequest.{CloudRequest}
use Rattle.scfs_base.specs.declared.cloud.CloudRequest.TheVariants as requests
use Rattle.scfs_unit.specs.Checking.{object_size}
use Rattle.scfs_unit.specs.declared.sealing.Sealed.{Sealed}
use Rattle.scfs_model.specs.Names.{upload_name}
use Rattle.scfs_model.specs.Format.{object_at}
use Rattle.scfs_model.specs.Asked.{Asked}
use Rattle.scfs_model.specs.Layers.{Row}
use Rattle.scfs_model.specs.Sayings.{Saying, said_by}
use Rattle.scfs_model.specs.Agents.{Request, Sent, Reaction}
use Rattle.scfs_anchor.specs.StepPlans.{step_on_tuples}
use Rattle.scfs_agent.specs.State.{AgentState}
use Rattle.scfs_agent.specs.declared.types.Output.{Output}
use Rattle.scfs_agent.specs.declared.types.Output.TheVariants as outputs

-- The outputs of an agent are those of the machine's reaction: the steps that it asks, what it says, its requests to clouds.

abbrev pub said_outputs : (a : ℕ) → List Saying → List Output
said_outputs a says = map (λ x. outputs.Line (said_by a x)) says

abbrev pub step_output : (lease : ℕ) → Request Row → Output
step_output lease x = outputs.Space x.number (step_on_tuples lease x.number x.step)

abbrev pub sent_outputs : List Sent → List Output
sent_outputs sent = map (λ (x : Sent). outputs.Cloud x.cloud x.number x.body) sent

abbrev pub outputs_by : (a lease : ℕ) → Reaction Row → List Output
outputs_by a lease r = map (step_output lease) r.steps ++ said_outputs a r.says ++ sent_outputs r.sent

abbrev pub outputs_of : AgentState → Reaction Row → List Output
outputs_of a r = outputs_by a.no a.header.lease r

-- requests to clouds with these bodies
abbrev pub sent_to : (body : (c : ℕ) → CloudRequest) → List Asked → List Sent
sent_to body asked = map (λ (x : Asked). record { number = x.request; cloud = x.cloud; body = body x.cloud }) asked

-- a Get of an upload's object, with contents of a size, and a Put of a cloud's object
abbrev pub get_body : (f : ℕ) → UploadNo → (size : ℕ) → (c : ℕ) → CloudRequest
get_body f upload size c = requests.Get (upload_name upload) (object_size f size + 1)

abbrev pub put_body : UploadNo → Sealed → (c : ℕ) → CloudRequest
put_body upload unit c = requests.Put (upload_name upload) (object_at unit c)
