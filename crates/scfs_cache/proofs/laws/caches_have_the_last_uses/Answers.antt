use Rattle.scfs_cache.proofs.Whole.{memory-last_uses, disk-last_uses}
use Rattle.scfs_cache.proofs.laws.caches_have_the_last_uses.Goals as goal

pub returns : goal.returns
returns c = record { memory = memory-last_uses; disk = disk-last_uses }
