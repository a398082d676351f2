use Rattle.std.proofs.Common.{◌≡◌, ◌≤◌, ◌-◌, ℕ, List, length}
use Rattle.std.specs.Option.{option_copied}
use Rattle.std.specs.Prelude.{map}
use Rattle.scfs_base.specs.Limits.{events_limit}
use Rattle.scfs_policy.specs.declared.rank.RankFacts.{RankFacts}
use Rattle.scfs_schedule.specs.declared.types.Header.{Header}
use Rattle.scfs_model.specs.History.{History}
use Rattle.scfs_world.specs.Happening.{IsPlayed, Stands}
use Rattle.scfs_world.specs.Stepping.{IsWorld}
use Rattle.scfs_live.specs.Able.{Fits}
use Rattle.scfs_live.specs.Asked.{Told, told}
use Rattle.scfs_live.specs.Drives.{Going}
use Rattle.scfs_live.proofs.driving.drive.Given as goal

abbrev pub invariant-events : goal.invariant-events
invariant-events g l =
    let cloud = g.C.Cloud in
    let j = g.J.Sink in
    let o = g.O.Sink in
    let allows : RankFacts → ℕ → Type 0 = λ facts rank. g.R.Fn.post l.rank (facts, tt) rank in
    let tolds : List g.row.C.Denot → List Told = λ clouds. map (λ (x : g.row.C.Denot). told (cloud.faults x) (cloud.log x) (cloud.store x)) clouds in
    record {
      going : (header : Header) (past : History) → Stands l.fn.world header past → IsPlayed allows header past →
          Going allows header (option_copied l.fn.event) past l.world l.driver (j.written l.fn.journal) (j.written l.journal) (o.written l.fn.out) (o.written l.out)
          (tolds l.fn.clouds) (tolds l.clouds);
      world : IsWorld l.world;
      header : l.world.header ≡ l.fn.world.header;
      few : l.world.events ≤ events_limit;
      fits : Fits l.world.header l.driver;
      clouds : length l.clouds ≡ length l.fn.clouds;
      journal_later : j.faults l.fn.journal ≤ j.faults l.journal;
      out_later : o.faults l.fn.out ≤ o.faults l.out;
    }

abbrev pub decreases-events : goal.decreases-events
decreases-events g l = events_limit - l.world.events
