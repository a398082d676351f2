use Rattle.std.proofs.Common.{◌≤◌, length}
use Rattle.scfs_cache.specs.Kept.{answers_limit}
use Rattle.scfs_cache.proofs.PathKeys.{touched}
use Rattle.scfs_cache.proofs.paths.RecentPaths.touch.Goals as goal

pub returns : goal.returns
returns g c =
    let valid = c.len-held.ensures.valid in
    let fits : length c.self.inside.lru.entries ≤ answers_limit = rw (c.self.invariant) at valid.1 in
    rw (c.promote.ensures.entries, ← c.self.view_is) (touched c.self.inside.lru.entries c.args.path.now valid.0 fits)
