use Rattle.std.proofs.Common.{◌≡◌, rules}
use Rattle.scfs_cache.proofs.PathKeys.{kept}
use Rattle.scfs_cache.proofs.paths.RecentPaths.keep.Goals as goal

pub returns-clause-after : goal.returns-clause-after
returns-clause-after g c =
    let path = c.in_ok-path.path in
    let copied : path.items ≡ c.args.path.now = search rules in
    rw (c.in_ok-put.ensures.entries, ← c.self.view_is)
    (kept c.self.inside.lru path c.args.path.now c.args.answer copied c.len-held.ensures.valid c.self.invariant)
