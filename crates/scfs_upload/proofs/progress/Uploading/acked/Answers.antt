use Rattle.std.proofs.Common.{◌∙◌}
use Rattle.scfs_upload.proofs.Acknowledging.{progress-brought}
use Rattle.scfs_upload.proofs.progress.Uploading.acked.Goals as goal

pub returns-clause-answer : goal.returns-clause-answer
returns-clause-answer c =
    rw (← c.self.view_is)
    (c.acked.ensures.answer ∙ progress-brought c.self.inside.acks c.args.cloud c.self.inside.upload c.self.inside.turns c.self.invariant)
