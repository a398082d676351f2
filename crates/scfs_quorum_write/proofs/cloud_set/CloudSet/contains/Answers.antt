use Rattle.std.proofs.Common.{◌∙◌, sym, ap}
use Rattle.std.specs.FinSet as set
use Rattle.scfs_quorum_write.specs.Marks.{Clouds}
use Rattle.scfs_quorum_write.proofs.MarksLemmas.{contains-marked}
use Rattle.scfs_quorum_write.proofs.cloud_set.CloudSet.contains.Goals as goal

pub returns : goal.returns
returns c =
    sym (contains-marked c.self.inside.marks c.args.cloud) ∙ ap (λ (clouds : Clouds). set.contains clouds c.args.cloud) c.self.view_is
