use Rattle.std.proofs.Common.{◌∙◌}
use Rattle.scfs_live.specs.Keeping.{awaited_text, mark_if}
use Rattle.scfs_live.proofs.EdgeLemmas.{same_part, same_puts, then_part}
use Rattle.scfs_live.proofs.reopening.write_missing.Goals as goal

pub returns-in-Err-write_all-clause-ends : goal.returns-in-Err-write_all-clause-ends
returns-in-Err-write_all-clause-ends g c =
    let written = g.J.Sink.written in
    let old = written c.args.journal.now in
    let between = written c.write_all.new.out in
    let new = written c.write_all-in-Ok.new.out in
    let part = c.in-Err-write_all.ensures.bytes in
    then_part old between new (mark_if c.args.unfinished) (awaited_text c.args.awaited.now)
    (same_puts old between c.mark_if.result.now (mark_if c.args.unfinished) c.mark_if.ensures c.in-Ok.ensures.bytes)
    (same_part between new c.as_slice.result.now (awaited_text c.args.awaited.now) (c.as_slice.ensures ∙ c.in_ok-text.ensures)
    (record { front = part.0; back = part.1; whole = part.2; more = part.3; puts = part.4 }))
