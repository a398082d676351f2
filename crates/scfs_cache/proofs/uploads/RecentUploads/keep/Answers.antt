use Rattle.std.proofs.Common.{◌≡◌, ap, rules}
use Rattle.scfs_cache.proofs.UploadKeys.{kept}
use Rattle.scfs_cache.proofs.uploads.RecentUploads.keep.Goals as goal

pub returns-clause-after : goal.returns-clause-after
returns-clause-after c =
    let cache = c.self.inside.lru in
    let copied : c.in_ok-copied.copied ≡ c.args.contents.now = search rules in
    rw (c.in_ok-put.ensures.entries, ← c.self.view_is, copied)
    (ap (λ es. record { most = cache.cap; entries = es })
    (kept c.new.result c.args.upload.now c.new.ensures cache c.args.contents.now c.len-held.ensures.valid))
