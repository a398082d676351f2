-- What the outputs of a reaction come to: its lines, its steps, and its requests at the clouds.
use Rattle.std.proofs.Common.{◌≡◌, ℕ, ◌+◌, ◌*◌, ◌≤◌, List, [], ◌∷◌, ◌++◌, map, length, refl, ap, ◌∙◌, arith, All, length-set, append_assoc, append-nil}
use Rattle.std.proofs.lemmas.List.Elements.{All-weaker, All-append, All-head, All-tail, All-nil, All-cons}
use Rattle.scfs_tuples.specs.Steps.{IsStep}
use Rattle.scfs_net.specs.Queues.{NetState, asked, cloud_at}
use Rattle.scfs_model.specs.Clouds.{asked_by, all_asked}
use Rattle.scfs_model.specs.Format.{Setup}
use Rattle.scfs_model.specs.Layers.{Row}
use Rattle.scfs_model.specs.Sayings.{Saying, said_by}
use Rattle.scfs_model.specs.Agents.{Request, Sent, Reaction}
use Rattle.scfs_model.specs.States.{request_line}
use Rattle.scfs_agent.specs.Keeping.{FitsOutput}
use Rattle.scfs_agent.specs.Outputs.{said_outputs, step_output, sent_outputs, outputs_by}
use Rattle.scfs_agent.specs.declared.types.Output.{Output}
use Rattle.scfs_agent.specs.declared.types.Output.TheVariants as outputs
use Rattle.scfs_world.specs.Doing.{step_out, steps_out, lines_out, net_by, net_with, AsksAmong}
use Rattle.scfs_world.specs.Shows.{step_asked}
use Rattle.scfs_world.specs.declared.seat.StepAsked.{StepAsked}

-- what it says, asks of the space and asks of clouds, one after the other

module _ (s : Setup) (a lease : ℕ) where
  lines_sent : (sent : List Sent) → lines_out s (sent_outputs sent) ≡ map (λ (x : Sent). request_line s x.number x.cloud x.body) sent
  lines_sent [] = refl
  lines_sent (x ∷ rest) = ap (λ ls. request_line s x.number x.cloud x.body ∷ ls) (lines_sent rest)

  lines_steps : (steps : List (Request Row)) (rest : List Output) → lines_out s (map (step_output lease) steps ++ rest) ≡ lines_out s rest
  lines_steps [] rest = refl
  lines_steps (x ∷ steps) rest = lines_steps steps rest

  lines_says : (says : List Saying) (rest : List Output) → lines_out s (said_outputs a says ++ rest) ≡ map (said_by a) says ++ lines_out s rest
  lines_says [] rest = refl
  lines_says (x ∷ says) rest = ap (λ ls. said_by a x ∷ ls) (lines_says says rest)

  steps_sent : (sent : List Sent) → steps_out (sent_outputs sent) ≡ []
  steps_sent [] = refl
  steps_sent (x ∷ rest) = steps_sent rest

  steps_steps : (steps : List (Request Row)) (rest : List Output)
      → steps_out (map (step_output lease) steps ++ rest) ≡ map (step_asked lease) steps ++ steps_out rest
  steps_steps [] rest = refl
  steps_steps (x ∷ steps) rest = ap (λ xs. step_asked lease x ∷ xs) (steps_steps steps rest)

  steps_says : (says : List Saying) (rest : List Output) → steps_out (said_outputs a says ++ rest) ≡ steps_out rest
  steps_says [] rest = refl
  steps_says (x ∷ says) rest = steps_says says rest

  net_sent : (sent : List Sent) (net : NetState) → net_with net (sent_outputs sent) ≡ all_asked net sent
  net_sent [] net = refl
  net_sent (x ∷ rest) net = net_sent rest (asked_by net x)

  net_steps : (net : NetState) (steps : List (Request Row)) (rest : List Output)
      → net_with net (map (step_output lease) steps ++ rest) ≡ net_with net rest
  net_steps net [] rest = refl
  net_steps net (x ∷ steps) rest = net_steps net steps rest

  net_says : (net : NetState) (says : List Saying) (rest : List Output) → net_with net (said_outputs a says ++ rest) ≡ net_with net rest
  net_says net [] rest = refl
  net_says net (x ∷ says) rest = net_says net says rest

-- of a whole reaction
module _ (s : Setup) (a lease : ℕ) (r : Reaction Row) (given : List Output) (is : given ≡ outputs_by a lease r) where
  abbrev Steps : List Output
  Steps = map (step_output lease) r.steps

  abbrev Said : List Output
  Said = said_outputs a r.says

  abbrev Asked : List Output
  Asked = sent_outputs r.sent

  split : given ≡ Steps ++ (Said ++ Asked)
  split = is ∙ append_assoc Steps Said Asked

  pub lines_reacted : lines_out s given ≡ map (said_by a) r.says ++ map (λ (x : Sent). request_line s x.number x.cloud x.body) r.sent
  lines_reacted =
      ap (lines_out s) split ∙ lines_steps s a lease r.steps (Said ++ Asked) ∙ lines_says s a lease r.says Asked
      ∙ ap (λ ls. map (said_by a) r.says ++ ls) (lines_sent s a lease r.sent)

  pub steps_reacted : steps_out given ≡ map (step_asked lease) r.steps
  steps_reacted =
      ap steps_out split ∙ steps_steps s a lease r.steps (Said ++ Asked)
      ∙ ap (λ xs. map (step_asked lease) r.steps ++ xs) (steps_says s a lease r.says Asked ∙ steps_sent s a lease r.sent)
      ∙ append-nil (map (step_asked lease) r.steps)

  pub net_reacted : (net : NetState) → net_with net given ≡ all_asked net r.sent
  net_reacted net =
      ap (net_with net) split ∙ net_steps s a lease net r.steps (Said ++ Asked) ∙ net_says s a lease net r.says Asked ∙ net_sent s a lease r.sent net

-- outputs at the clouds and among the steps that wait

pub length-net_by : (n : NetState) (o : Output) → length (net_by n o).clouds ≡ length n.clouds
length-net_by n (outputs.Space request step) = refl
length-net_by n (outputs.Cloud c request body) = length-set n.clouds c (asked request body (cloud_at n c))
length-net_by n (outputs.Line line) = refl

pub length-net_with : (n : NetState) (given : List Output) → length (net_with n given).clouds ≡ length n.clouds
length-net_with n [] = refl
length-net_with n (o ∷ given) = length-net_with (net_by n o) given ∙ length-net_by n o

carried_by : (n : NetState) (o : Output) → n.carried ≤ (net_by n o).carried
carried_by n (outputs.Space request step) = omega arith
carried_by n (outputs.Cloud c request body) = omega arith
carried_by n (outputs.Line line) = omega arith

-- what was carried stays so
pub carried_with : (n : NetState) (given : List Output) → n.carried ≤ (net_with n given).carried
carried_with n [] = omega arith
carried_with n (o ∷ given) = omega (arith, carried_by n o, carried_with (net_by n o) given)

pub all_among : (f clouds : ℕ) (given : List Output) → clouds ≡ 3 * f + 1 → All (FitsOutput f) given → All (AsksAmong clouds) given
all_among f clouds given are fits = All-weaker (FitsOutput f) (AsksAmong clouds) by given fits
  where
    by : (o : Output) → FitsOutput f o → AsksAmong clouds o
    by (outputs.Space request step) h = tt
    by (outputs.Cloud c request body) h = omega (arith, h)
    by (outputs.Line line) h = tt

-- the steps that an agent asks are steps
pub all_steps : (f : ℕ) (given : List Output) → All (FitsOutput f) given → All (λ (x : StepAsked). IsStep x.step) (steps_out given)
all_steps f [] fits = All-nil (λ (x : StepAsked). IsStep x.step)
all_steps f (o ∷ given) fits =
    All-append (λ (x : StepAsked). IsStep x.step) (step_out o) (steps_out given) (by o (All-head (FitsOutput f) o given fits))
    (all_steps f given (All-tail (FitsOutput f) o given fits))
  where
    by : (o : Output) → FitsOutput f o → All (λ (x : StepAsked). IsStep x.step) (step_out o)
    by (outputs.Space request step) h =
        All-cons (λ (x : StepAsked). IsStep x.step) (record { request = request; step = step }) [] h (All-nil (λ (x : StepAsked). IsStep x.step))
    by (outputs.Cloud c request body) h = All-nil (λ (x : StepAsked). IsStep x.step)
    by (outputs.Line line) h = All-nil (λ (x : StepAsked). IsStep x.step)
