use Rattle.scfs_cloud.proofs.FolderLemmas.{object_names}
use Rattle.scfs_cloud.proofs.file_names.object_names_are_read.Goals as goal

pub returns : goal.returns
returns c = object_names
