use Rattle.std.proofs.Common.{refl, subst}
use Rattle.scfs_live.specs.declared.driver.Next.{Next}
use Rattle.scfs_live.specs.Able.{CanBeNext}
use Rattle.scfs_live.specs.Waits.{waits_in}
use Rattle.scfs_live.proofs.HearingLemmas.{has_names}
use Rattle.scfs_live.proofs.hearing.heard.Goals as goal

pub returns-in-Ok-clause-done : goal.returns-in-Ok-clause-done
returns-in-Ok-clause-done g c =
    let world = c.args.world.now in
    let there = subst (λ (n : Next). CanBeNext world.header (waits_in world) n) c.in-Hears.is c.requires.next in
    record { fits = (there.0, has_names _ c.in-Ok.answer c.in-Ok.ensures.kept); built = refl }
