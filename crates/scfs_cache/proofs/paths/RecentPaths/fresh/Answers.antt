use Rattle.std.proofs.Common.{sym, arith}
use Rattle.scfs_cache.proofs.PathKeys.{fresh-none, fresh-some, fresh-old}
use Rattle.scfs_cache.proofs.paths.RecentPaths.fresh.Goals as goal

pub returns-in_err-answer : goal.returns-in_err-answer
returns-in_err-answer g c =
    rw (← c.self.view_is, c.from_residual.ensures)
    (sym (fresh-none c.self.inside.lru.entries c.args.path.now c.args.now c.args.stale c.in_err-answer.ensures))

pub returns-then-saturating_sub-stale : goal.returns-then-saturating_sub-stale
returns-then-saturating_sub-stale g c =
    let it = c.in_ok-answer in
    rw (← c.self.view_is)
    (sym (fresh-some c.self.inside.lru.entries c.args.path.now c.args.now c.args.stale it.answer.now it.ensures (omega arith)))

pub returns-else-saturating_sub-stale : goal.returns-else-saturating_sub-stale
returns-else-saturating_sub-stale g c =
    let it = c.in_ok-answer in
    rw (← c.self.view_is)
    (sym (fresh-old c.self.inside.lru.entries c.args.path.now c.args.now c.args.stale it.answer.now it.ensures (omega arith)))
