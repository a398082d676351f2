use Rattle.scfs_stream.proofs.StreamFacts.{ciphered-zeros}
use Rattle.scfs_stream.proofs.drawing.stream_start.Goals as goal

pub returns : goal.returns
returns c = rw c.xor_stream.ensures.whole (ciphered-zeros c.args.key.now 128)
