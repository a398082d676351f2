use Rattle.std.proofs.Common.{◌∙◌, ap, rules, ◌<◌, length}
use Rattle.std.specs.FinSet as set
use Rattle.scfs_quorum_write.specs.Marks.{Clouds}
use Rattle.scfs_quorum_write.proofs.MarksLemmas.{marked-set}
use Rattle.scfs_quorum_write.proofs.cloud_set.CloudSet.insert.Goals as goal

pub returns : goal.returns
returns c =
    let within : c.args.cloud < length c.self.inside.marks = search rules in
    marked-set c.self.inside.marks c.args.cloud within ∙ ap (λ (clouds : Clouds). set.insert clouds c.args.cloud) c.self.view_is
