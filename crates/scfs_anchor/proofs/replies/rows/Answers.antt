use Rattle.std.proofs.Common.{◌≡◌, List, IfOk, subst}
use Rattle.scfs_anchor.specs.declared.seen.VersionRow.{VersionRow}
use Rattle.scfs_anchor.proofs.ReplyLemmas.{rows_read}
use Rattle.scfs_anchor.proofs.replies.rows.Goals as goal

pub returns : goal.returns
returns c = λ seen shows. subst (λ (read : List VersionRow). IfOk c.read_rows.result (λ rows. rows ≡ read)) (rows_read c.args.reply.now seen shows) c.read_rows.ensures
