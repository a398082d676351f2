use Rattle.std.proofs.Common.{◌∙◌, ◌++◌, ◌∷◌, [], ap, length, refl}
use Rattle.std.specs.List.{flat_map, range_with_len}
use Rattle.scfs_live.specs.declared.driver.Work.TheVariants.{Serve, TellRest, Ask, HandRest}
use Rattle.scfs_live.specs.Driving.{agent_work, cloud_work}
use Rattle.scfs_live.proofs.RoundLemmas.{pushed_two, pushed_two_behind}
use Rattle.scfs_live.proofs.driver.round.Goals as goal

pub agents-preserved : goal.agents-preserved
agents-preserved c =
    c.in_ok-push_back-2.ensures.items
    ∙ ap (λ l. l ++ TellRest c.agents.agent ∷ []) (c.in_ok-push_back.ensures.items ∙ ap (λ l. l ++ Serve c.agents.agent ∷ []) c.agents.invariant)
    ∙ pushed_two agent_work c.agents.agent (Serve c.agents.agent) (TellRest c.agents.agent) refl

pub clouds-preserved : goal.clouds-preserved
clouds-preserved c =
    c.in_ok-push_back-4.ensures.items
    ∙ ap (λ l. l ++ HandRest c.clouds.cloud ∷ []) (c.in_ok-push_back-3.ensures.items ∙ ap (λ l. l ++ Ask c.clouds.cloud ∷ []) c.clouds.invariant)
    ∙ pushed_two_behind (flat_map agent_work (range_with_len 0 (length c.args.header.now.agents))) cloud_work c.clouds.cloud (Ask c.clouds.cloud) (HandRest c.clouds.cloud) refl
