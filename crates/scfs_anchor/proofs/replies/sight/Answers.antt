use Rattle.std.proofs.Common.{◌∙◌}
use Rattle.scfs_anchor.proofs.ReplyLemmas.{sight_read}
use Rattle.scfs_anchor.proofs.replies.sight.Goals as goal

pub returns : goal.returns
returns c = λ seen shows. c.sight_of.ensures ∙ sight_read c.args.reply.now seen shows
