use Rattle.std.proofs.Common.{ap, sym, ◌∙◌, ◌++◌, [], ◌∷◌}
use Rattle.scfs_live.specs.Keeping.{whole_lines}
use Rattle.scfs_live.proofs.KeepingLemmas.{lines_cut}
use Rattle.scfs_live.proofs.awaited.whole_lines.Goals as goal

pub lines-preserved : goal.lines-preserved
lines-preserved c =
    let lines = c.lines.lines in
    lines_cut c.args.text.now c.lines.rest.now c.in-Some.line.now c.in-Some.after.now lines c.lines.invariant c.in-Some.ensures.alone
    ∙ ap (λ ls. ls ++ whole_lines c.in-Some.after.now) (sym (c.in_ok-push.ensures.ok ∙ ap (λ l. lines ++ l ∷ []) c.in_ok-from_slice.ensures))
