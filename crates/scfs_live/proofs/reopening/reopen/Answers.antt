use Rattle.scfs_live.proofs.EdgeLemmas.{if_err-map}
use Rattle.scfs_live.proofs.FarLemmas.{ends_reopening}
use Rattle.scfs_live.proofs.reopening.reopen.Goals as goal

pub returns-in-Ok-clause-ends : goal.returns-in-Ok-clause-ends
returns-in-Ok-clause-ends g c =
    if_err-map c.finish.result _ _
    (λ end writing.
    ends_reopening _ c.args.header.now (g.L.Source.left c.args.old.now) (g.L.Source.left c.run_again.new.old) (g.L.Source.ends c.args.old.now)
    (g.L.Source.ends c.run_again.new.old) (g.J.Sink.written c.args.journal.now) (g.J.Sink.written c.finish.new.journal) c.in-Ok.reread end
    c.in-Ok.ensures.rereads writing)
    c.finish.ensures.ends
