use Rattle.std.proofs.Common.{ap}
use Rattle.scfs_cache.proofs.UploadKeys.{touched}
use Rattle.scfs_cache.proofs.uploads.RecentUploads.touch.Goals as goal

pub returns : goal.returns
returns c =
    let cache = c.self.inside.lru in
    let valid = c.len-held.ensures.valid in
    rw (c.promote.ensures.entries, ← c.self.view_is)
    (ap (λ es. record { most = cache.cap; entries = es })
    (touched c.new.result c.args.upload.now c.new.ensures cache.entries cache.cap valid.0 valid.1))
