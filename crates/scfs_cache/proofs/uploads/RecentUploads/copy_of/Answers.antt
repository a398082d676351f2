use Rattle.std.proofs.Common.{rules}
use Rattle.scfs_cache.proofs.UploadKeys.{looked_up}
use Rattle.scfs_cache.proofs.uploads.RecentUploads.copy_of.Goals as goal

pub returns-in_ok-copy-in-Some : goal.returns-in_ok-copy-in-Some
returns-in_ok-copy-in-Some c =
    let looked = looked_up c.new.result c.args.upload.now c.new.ensures c.self.inside.lru.entries in
    rw (← c.self.view_is, looked) (search rules)

pub returns-in-None : goal.returns-in-None
returns-in-None c =
    let looked = looked_up c.new.result c.args.upload.now c.new.ensures c.self.inside.lru.entries in
    rw (← c.self.view_is, looked) (search rules)
