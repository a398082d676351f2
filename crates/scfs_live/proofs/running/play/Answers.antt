use Rattle.scfs_live.proofs.running.play.Goals as goal

pub returns-else-is_full : goal.returns-else-is_full
returns-else-is_full g c = λ header place stands plays. c.step.ensures header place c.args.number stands plays
