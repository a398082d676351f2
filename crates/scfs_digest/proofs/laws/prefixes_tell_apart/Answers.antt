use Rattle.scfs_digest.proofs.TextLemmas as lemmas
use Rattle.scfs_digest.proofs.laws.prefixes_tell_apart.Goals as goal

pub returns : goal.returns
returns c = lemmas.prefixes_tell_apart
