use Rattle.scfs_digest.proofs.TagLemmas.{key_over_zeros}
use Rattle.scfs_digest.proofs.tags.padded_key.Goals as goal

pub returns : goal.returns
returns c = rw c.copy_from_slice.ensures.after (key_over_zeros c.args.key.now)
