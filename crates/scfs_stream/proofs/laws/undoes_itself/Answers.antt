use Rattle.scfs_stream.proofs.StreamFacts.{ciphered-ciphered}
use Rattle.scfs_stream.proofs.laws.undoes_itself.Goals as goal

pub returns : goal.returns
returns c = ciphered-ciphered
