-- What the code has of an input that was done, put together; and that a seat is ready after it.
use Rattle.std.proofs.Common.{◌≡◌, ℕ, ◌+◌, ◌*◌, ◌<◌, ◌≤◌, List, [], ◌∷◌, ◌++◌, length, refl, ap, sym, subst, ◌∙◌, arith, All, Bool, true, false, Result, Ok, Err, OnOk}
use Rattle.std.proofs.lemmas.List.Elements.{All-append, All-head, All-tail, All-nil, All-cons}
use Rattle.scfs_base.specs.Limits.{carried_limit}
use Rattle.scfs_policy.specs.declared.rank.RankFacts.{RankFacts}
use Rattle.scfs_schedule.specs.declared.types.Header.{Header}
use Rattle.scfs_schedule.specs.declared.types.Line.{Line}
use Rattle.scfs_schedule.specs.declared.types.Line.TheVariants as lines
use Rattle.scfs_tuples.specs.Steps.{IsStep}
use Rattle.scfs_tuples.specs.declared.types.Tuple.{Tuple}
use Rattle.scfs_net.specs.Queues.{NetState}
use Rattle.scfs_model.specs.States.{is_there}
use Rattle.scfs_model.specs.UnitFormat.{under}
use Rattle.scfs_agent.specs.State.{AgentState}
use Rattle.scfs_agent.specs.declared.types.Input.{Input}
use Rattle.scfs_agent.specs.declared.types.Input.TheVariants as inputs
use Rattle.scfs_agent.specs.declared.types.Output.{Output}
use Rattle.scfs_world.specs.Doing.{steps_out, lines_out, net_with, IsGiven, IsDone, IsTooMuch, Says, Comes, ComesIf, TellsOldest, ServesOldest, PostponesOldest}
use Rattle.scfs_world.specs.Seating.{KeepsReady}
use Rattle.scfs_world.specs.State.{SeatState}
use Rattle.scfs_world.specs.declared.fault.StepFault.{StepFault}
use Rattle.scfs_world.specs.declared.fault.StepFault.TheVariants as faults
use Rattle.scfs_world.specs.declared.seat.StepAsked.{StepAsked}
use Rattle.scfs_world.specs.declared.seat.StepReply.{StepReply}
use Rattle.scfs_world.proofs.OutputLemmas.{length-net_with, all_steps}

module _ {allows : RankFacts → ℕ → Type 0} (now : ℕ) (input : Input) (was old : SeatState) (same : was ≡ old) (net : NetState) where
  pub done_from : (before : List Line) (new : SeatState) (after : NetState) (shown : List Line) (given : List Output)
      → IsGiven allows now input was.agent new.agent given → new.asked ≡ was.asked ++ steps_out given → new.replied ≡ was.replied
      → after ≡ net_with net given → ((header : Header) → shown ≡ before ++ lines_out (under header) given) → after.carried ≤ carried_limit
      → IsDone allows now input before old new net after shown
  done_from before new after shown given it asked replied sent lines carried =
      subst (λ s. IsDone allows now input before s new net after shown) same
      (record { given = given; it = it; asked = asked; replied = replied; sent = sent; lines = lines; carried = carried })

  pub fault_from : (before : List Line) (new : SeatState) (after : NetState) (is : AgentState) (given : List Output)
      → IsGiven allows now input was.agent is given
      → (fault : StepFault) → (fault ≡ faults.TooLarge → carried_limit < (net_with net given).carried)
      → Comes allows now old new net after input before (Err fault)
  fault_from before new after is given it faults.TooLarge more =
      subst (λ s. IsTooMuch allows now input s net) same (record { is = is; given = given; it = it; more = more refl })
  fault_from before new after is given it faults.Memory more = tt

-- a step that waits is a step
abbrev IsAsked : StepAsked → Type 0
IsAsked x = IsStep x.step

module _ (old new : SeatState) (net : NetState) (carried : net.carried ≤ carried_limit) where
  -- where the agent and the clouds stay, and these steps wait, each of which did before
  stay_keeps : (asked : List StepAsked) → new.agent ≡ old.agent → new.asked ≡ asked → (All IsAsked old.asked → All IsAsked asked)
      → KeepsReady old.agent old.asked net new.agent new.asked net
  stay_keeps asked same are steps = record {
    ready = λ events h. record {
      inputs = omega (arith, h.inputs, ap (λ (g : AgentState). g.inputs) same);
      steps = subst (All IsAsked) (sym are) (steps h.steps);
      clouds = h.clouds ∙ ap (λ (g : AgentState). 3 * g.header.f + 1) (sym same);
      carried = carried;
    };
    header = ap (λ (g : AgentState). g.header) same;
    clouds = refl;
  }

  same_keeps : new ≡ old → KeepsReady old.agent old.asked net new.agent new.asked net
  same_keeps same = stay_keeps old.asked (ap (λ (s : SeatState). s.agent) same) (ap (λ (s : SeatState). s.asked) same) (λ all. all)

  pub served_keeps : (space left : List Tuple) (now : ℕ) (shown : List Line) (asked : List StepAsked) → old.asked ≡ asked
      → ServesOldest now old new space left shown asked → KeepsReady old.agent old.asked net new.agent new.asked net
  served_keeps space left now shown [] are h = same_keeps h.0
  served_keeps space left now shown (x ∷ xs) are h =
      stay_keeps xs (ap (λ (s : SeatState). s.agent) h.0) (ap (λ (s : SeatState). s.asked) h.0)
      (λ all. All-tail IsAsked x xs (subst (All IsAsked) are all))

  pub postponed_keeps : (shown : List Line) (asked : List StepAsked) → old.asked ≡ asked → PostponesOldest old new shown asked
      → KeepsReady old.agent old.asked net new.agent new.asked net
  postponed_keeps shown [] are h = same_keeps h.0
  postponed_keeps shown (x ∷ xs) are h =
      stay_keeps (xs ++ x ∷ []) (ap (λ (s : SeatState). s.agent) h.0) (ap (λ (s : SeatState). s.asked) h.0)
      (λ all. let both : All IsAsked (x ∷ xs) = subst (All IsAsked) are all in
      All-append IsAsked xs (x ∷ []) (All-tail IsAsked x xs both) (All-cons IsAsked x [] (All-head IsAsked x xs both) (All-nil IsAsked)))

module _ (allows : RankFacts → ℕ → Type 0) (now : ℕ) (old new : SeatState) (net after : NetState) (carried : net.carried ≤ carried_limit) where
  done_keeps : (input : Input) (before shown : List Line) → IsDone allows now input before old new net after shown
      → KeepsReady old.agent old.asked net new.agent new.asked after
  done_keeps input before shown d = record {
    ready = λ events h. record {
      inputs = omega (arith, d.it.inputs, h.inputs);
      steps = subst (All IsAsked) (sym d.asked)
          (All-append IsAsked old.asked (steps_out d.given) h.steps (all_steps old.agent.header.f d.given d.it.fits));
      clouds = same ∙ h.clouds ∙ ap (λ (h : Header). 3 * h.f + 1) (sym d.it.header);
      carried = d.carried;
    };
    header = d.it.header;
    clouds = same;
  }
    where
      same : length after.clouds ≡ length net.clouds
      same = ap (λ (n : NetState). length n.clouds) d.sent ∙ length-net_with net d.given

  says_keeps : (line : Line) (result : Result (List Line) StepFault) → Says old new net after line result
      → OnOk result (KeepsReady old.agent old.asked net new.agent new.asked after)
  says_keeps line (Ok shown) d =
      subst (KeepsReady old.agent old.asked net new.agent new.asked) (sym d.1) (same_keeps old new net carried d.0)
  says_keeps line (Err fault) d = tt

  pub if_keeps : (can : Bool) (input : Input) (before : List Line) (line : Line) (result : Result (List Line) StepFault)
      → ComesIf allows now old new net after can input before line result → OnOk result (KeepsReady old.agent old.asked net new.agent new.asked after)
  if_keeps true input before line (Ok shown) d = done_keeps input before shown d
  if_keeps true input before line (Err fault) d = tt
  if_keeps false input before line result d = says_keeps line result d

pub told_keeps : (allows : RankFacts → ℕ → Type 0) (now : ℕ) (old new : SeatState) (net after : NetState) → net.carried ≤ carried_limit
    → (result : Result (List Line) StepFault) (xs : List StepReply) → TellsOldest allows now old new net after xs result
    → OnOk result (KeepsReady old.agent old.asked net new.agent new.asked after)
told_keeps allows now old new net after carried result [] d = says_keeps allows now old new net after carried lines.Skip result d
told_keeps allows now old new net after carried result (x ∷ xs) d =
    if_keeps allows now (record old { replied = xs }) new net after carried (is_there old.agent.agent x.request) (inputs.Space x.request x.reply) []
    (lines.Gone x.request) result d
