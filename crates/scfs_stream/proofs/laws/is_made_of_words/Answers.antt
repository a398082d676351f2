use Rattle.scfs_stream.proofs.StreamFacts.{stream_is_words}
use Rattle.scfs_stream.proofs.laws.is_made_of_words.Goals as goal

pub returns : goal.returns
returns c = stream_is_words
