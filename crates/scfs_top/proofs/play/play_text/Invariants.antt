use Rattle.std.proofs.Common.{◌≤◌, ◌-◌}
use Rattle.scfs_base.specs.Limits.{events_limit}
use Rattle.scfs_schedule.specs.declared.types.Header.{Header}
use Rattle.scfs_model.specs.History.{History}
use Rattle.scfs_world.specs.Happening.{Stands}
use Rattle.scfs_world.specs.Stepping.{IsWorld}
use Rattle.scfs_top.specs.declared.closing.Filled.TheVariants as filleds
use Rattle.scfs_top.specs.Giving.{Tells}
use Rattle.scfs_top.proofs.GoingLemmas.{Going}
use Rattle.scfs_top.proofs.play.play_text.Given as goal

abbrev pub invariant-events : goal.invariant-events
invariant-events g l =
    let s = g.I.Source in
    let o = g.O.Sink in
    record {
      header : Header;
      past : History;
      going : Going (λ facts answer. g.R.Fn.post l.rank (facts, tt) answer) (s.left l.fn.input) (s.left l.input) (o.written l.fn.out) (o.written l.out) l.waiting l.intake
          header past;
      stands : Stands l.world header past;
      world : IsWorld l.world;
      few : l.world.events ≤ events_limit;
      tells : Tells (s.ends l.fn.input) (s.ends l.input) (s.faults l.fn.input) (s.faults l.input) filleds.Open;
      later : o.faults l.fn.out ≤ o.faults l.out;
    }

abbrev pub decreases-events : goal.decreases-events
decreases-events g l = events_limit - l.world.events
