use Rattle.std.proofs.Common.{ap, sym, subst, ◌∙◌, ◌≡◌, IfOk, slice_get}
use Rattle.scfs_live.specs.Finding.{event_found, event_read}
use Rattle.scfs_live.proofs.KeepingLemmas.{event_line_found}
use Rattle.scfs_live.proofs.awaited.Awaited.body_found.Goals as goal

pub returns-else-first-eq32-clause-value : goal.returns-else-first-eq32-clause-value
returns-else-first-eq32-clause-value c =
    let header = c.args.header.now in
    let line = c.args.line.now in
    let made = slice_get c.args.self.now.lines 0 in
    subst (λ x. IfOk c.event_found-else-first-eq32.result (λ found. found ≡ x))
    (ap (λ m. event_found m (event_read header line)) c.front-made.ensures ∙ sym (event_line_found header made line c.in-len1-up.len_at_least c.if-first-eq32.false))
    c.event_found-else-first-eq32.ensures.value
