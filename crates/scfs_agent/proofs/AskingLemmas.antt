-- The requests that an agent makes of clouds.
use Rattle.std.proofs.Common.{◌≡◌, ℕ, ◌+◌, ◌*◌, ◌<◌, List, [], ◌∷◌, ap, ◌∙◌}
use Rattle.std.specs.List.{All}
use Rattle.std.proofs.lemmas.List.Elements.{All-nil, All-cons, All-head, All-tail, All-same}
use Rattle.scfs_base.specs.declared.cloud.CloudRequest.{CloudRequest}
use Rattle.scfs_model.specs.Asked as machine
use Rattle.scfs_agent.specs.State.{AgentState}
use Rattle.scfs_agent.specs.Views.{asked_of}
use Rattle.scfs_agent.specs.Outputs.{sent_outputs, sent_to}
use Rattle.scfs_agent.specs.Keeping.{FitsOutput}
use Rattle.scfs_agent.specs.declared.types.Output.{Output}
use Rattle.scfs_agent.specs.declared.work.Asked.{Asked}

-- the clouds that are asked are those of the list
pub asked_fit : (f : ℕ) (body : (c : ℕ) → CloudRequest) (a incarnation drawn : ℕ) (clouds : List ℕ) → All (λ c. c < 3 * f + 1) clouds
    → All (FitsOutput f) (sent_outputs (sent_to body (machine.asked_of a incarnation drawn clouds)))
asked_fit f body a incarnation drawn [] h = All-nil (FitsOutput f)
asked_fit f body a incarnation drawn (c ∷ cs) h =
    All-cons (FitsOutput f) _ _ (All-head (λ c. c < 3 * f + 1) c cs h)
    (asked_fit f body a incarnation (drawn + 1) cs (All-tail (λ c. c < 3 * f + 1) c cs h))

abbrev asked_as : Asked → machine.Asked
asked_as x = record { request = x.request; cloud = x.cloud }

module _ (old v : AgentState) (view_is : v ≡ old) (clouds : List ℕ) (more : List Asked)
    (numbered : asked_of more ≡ machine.asked_of v.no v.agent.incarnation v.agent.requests clouds) where
  asked : asked_of more ≡ machine.asked_of old.no old.agent.incarnation old.agent.requests clouds
  asked = numbered ∙ ap (λ (w : AgentState). machine.asked_of w.no w.agent.incarnation w.agent.requests clouds) view_is

  pub fits : (body : (c : ℕ) → CloudRequest) (given : List Output) → given ≡ sent_outputs (sent_to body (asked_of more))
      → All (λ c. c < 3 * old.header.f + 1) clouds
      → All (FitsOutput old.header.f) given
  fits body given e all =
      All-same (FitsOutput old.header.f) given _ (e ∙ ap (λ (xs : List machine.Asked). sent_outputs (sent_to body xs)) asked)
      (asked_fit old.header.f body old.no old.agent.incarnation old.agent.requests clouds all)
