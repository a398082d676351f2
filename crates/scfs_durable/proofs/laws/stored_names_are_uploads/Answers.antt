use Rattle.scfs_durable.proofs.NamesLaw.{names_are_uploads}
use Rattle.scfs_durable.proofs.laws.stored_names_are_uploads.Goals as goal

pub returns : goal.returns
returns c = names_are_uploads
