use Rattle.std.proofs.Common.{◌≤◌, ◌-◌, ◌+◌, List, length, map, ℕ}
use Rattle.std.specs.Prelude.{IfSome}
use Rattle.scfs_base.specs.Limits.{events_limit}
use Rattle.scfs_base.specs.Outside.{Puts}
use Rattle.scfs_schedule.specs.Grammar.{IsHeader}
use Rattle.scfs_schedule.specs.Holding.{is_unfinished}
use Rattle.scfs_schedule.specs.declared.types.Header.{Header}
use Rattle.scfs_model.specs.UnitFormat.{under}
use Rattle.scfs_world.specs.Stepping.{IsWorld}
use Rattle.scfs_live.specs.Able.{CanBeGiven}
use Rattle.scfs_live.specs.Asked.{told}
use Rattle.scfs_live.specs.Driving.{begins_with}
use Rattle.scfs_live.specs.Keeping.{missing}
use Rattle.scfs_live.specs.Reopened.{ReadsAll}
use Rattle.scfs_live.specs.Reopening.{Walk}
use Rattle.scfs_top.specs.Outer.{source}
use Rattle.scfs_top.proofs.UnderwayLemmas.{Behind, one_if_none}
use Rattle.scfs_top.proofs.run.run.Given as goal

abbrev pub decreases-events : goal.decreases-events
decreases-events g l = (events_limit - l.world.events) + one_if_none l.given

abbrev pub invariant-events : goal.invariant-events
invariant-events g l =
    let i = g.I.Source in
    let k = g.L.Source in
    let o = g.O.Sink in
    let j = g.J.Sink in
    let c = g.C.Cloud in
    record {
      header : Header;
      text : List ℕ;
      place : Walk;
      reads : ReadsAll (λ facts answer. g.R.Fn.post l.rank (facts, tt) answer) header (k.left l.fn.old) (k.left l.old) (k.ends l.fn.old) (k.ends l.old) text place;
      filled_in : Puts (j.written l.fn.journal) (j.written l.initial.journal) (missing (is_unfinished text) place.awaited);
      behind : Behind (λ facts answer. g.R.Fn.post l.rank (facts, tt) answer) header place.past l.world (begins_with (under header) l.given) l.intake
          (source (i.left l.fn.input) (i.ends l.fn.input) (i.faults l.fn.input)) (source (i.left l.input) (i.ends l.input) (i.faults l.input))
          (j.written l.initial.journal) (j.written l.journal) (o.written l.fn.out) (o.written l.out)
          (map (λ x. told (c.faults x) (c.log x) (c.store x)) l.fn.clouds) (map (λ x. told (c.faults x) (c.log x) (c.store x)) l.clouds);
      can : IfSome l.given (CanBeGiven header);
      is : IsHeader header;
      world : IsWorld l.world;
      few : l.world.events ≤ events_limit;
      many : 10 ≤ length l.clouds;
      later_out : o.faults l.fn.out ≤ o.faults l.out;
      later_journal : j.faults l.fn.journal ≤ j.faults l.journal;
    }
