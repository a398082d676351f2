use Rattle.std.proofs.Common.{◌≡◌, ◌∙◌, sym, ap, take, arith}
use Rattle.std.specs.Prelude.{count_by}
use Rattle.std.specs.FinSet as set
use Rattle.std.proofs.lemmas.List.{take_all}
use Rattle.scfs_quorum_write.specs.Marks.{Clouds}
use Rattle.scfs_quorum_write.proofs.MarksLemmas.{len-marked}
use Rattle.scfs_quorum_write.proofs.cloud_set.CloudSet.len.Goals as goal

pub returns-clause-count : goal.returns-clause-count
returns-clause-count c =
    let marks = c.self.inside.marks in
    let all : take c.loop-mark.mark-index marks ≡ marks = take_all c.loop-mark.mark-index marks (omega arith) in
    c.loop-mark.invariant.count ∙ ap (count_by (λ b. b)) all ∙ sym (len-marked marks) ∙ ap (λ (clouds : Clouds). set.len clouds) c.self.view_is
