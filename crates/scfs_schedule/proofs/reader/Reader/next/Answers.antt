use Rattle.std.proofs.Common.{◌≡◌, ap, ◌∙◌, Some, Option, sym, subst}
use Rattle.std.specs.Prelude.{Result}
use Rattle.scfs_schedule.specs.declared.types.Ending.{Ending}
use Rattle.scfs_schedule.specs.declared.types.Item.{Item}
use Rattle.scfs_schedule.specs.declared.types.Stop.{Stop}
use Rattle.scfs_schedule.specs.Reading.{Reading, Gives}
use Rattle.scfs_schedule.proofs.ReadingLemmas.{ended_before, stays_stopped}
use Rattle.scfs_schedule.proofs.reader.Reader.next.Goals as goal
use Rattle.scfs_schedule.proofs.reader.Reader.next.Goals.{in-Ended, in-Stopped}

pub returns-in-Some : goal.returns-in-Some
returns-in-Some c =
    let r = c.args.self.now in
    let kept : c.self.inside.ending ≡ r.ending = ap (λ (r : Reading). r.ending) c.self.view_is in
    elim c.match-ending.branch [
      | in-Ended w ↦ subst (λ (x : Result (Option Item) Stop). Gives x r r) (sym w.result-is)
          (ended_before r c.self.inside.ending c.self.inside.place kept (ap (λ (r : Reading). r.place) c.self.view_is)
          (c.in-Some.is ∙ ap (λ (e : Ending). Some e) w.in-Ended.is) c.self.invariant.ended)
      | in-Stopped w ↦ subst (λ (x : Result (Option Item) Stop). Gives x r r) (sym w.result-is)
          (stays_stopped r w.in-Stopped.stop (sym kept ∙ c.in-Some.is ∙ ap (λ (e : Ending). Some e) w.in-Stopped.is))
    ]
