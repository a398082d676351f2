use Rattle.std.proofs.Common.{ap}
use Rattle.std.specs.Option.{option_copied}
use Rattle.scfs_live.proofs.BeginLemmas.{none_begun, none_ended, none_fits}
use Rattle.scfs_live.proofs.driving.begin.Goals as goal

pub returns-in-None-clause-begun : goal.returns-in-None-clause-begun
returns-in-None-clause-begun g c =
    none_begun _ c.args.world (option_copied c.args.event) (ap option_copied c.in-None.is) _ _ c.requires.room c.begin_settling.result c.begin_settling.ensures.begun

pub returns-in-None-clause-ended : goal.returns-in-None-clause-ended
returns-in-None-clause-ended g c =
    none_ended _ c.args.world (option_copied c.args.event) (ap option_copied c.in-None.is) _ _ c.requires.room c.begin_settling.result c.begin_settling.ensures.ended

pub returns-in-None-clause-driver : goal.returns-in-None-clause-driver
returns-in-None-clause-driver g c = none_fits c.args.world c.begin_settling.result c.begin_settling.ensures.begun
