use Rattle.std.proofs.Common.{[], ◌++◌, refl, sym, subst, arith, length-append, length-take}
use Rattle.scfs_base.specs.Outside.{Takes}
use Rattle.scfs_top.specs.declared.intake.Given.TheVariants as givens
use Rattle.scfs_top.proofs.EdgeLemmas.{takes_nothing, takes_then}
use Rattle.scfs_top.proofs.GivingLemmas.{draws_end, draws_on, fed_nothing, fed_on, fed_then, gives_on}
use Rattle.scfs_top.proofs.intake.Intake.read_on.Goals as goal

pub reads-init : goal.reads-init
reads-init g c = record {
  so_far = record {
    early = [];
    takes = takes_nothing (g.I.Source.left c.args.input.now);
    count = omega arith;
    fed = fed_nothing c.args.self.now.reader;
    awaiting = c.requires;
  };
  tells = record { later_ends = omega arith; later_faults = omega arith; ended = λ is. cc; failed = λ is. cc };
}

pub reads-preserved : goal.reads-preserved
reads-preserved g c =
    let left = g.I.Source.left in
    let s = c.reads.invariant.so_far in
    let tells = c.reads.invariant.tells in
    let took = c.in-Took.ensures.takes in
    let none = c.in_default.ensures.none in
    let fed = fed_on c.reads.self.reader c.feed_piece.new.reader c.given_now.new.reader took.0 took.5 none.0 in
    record {
      so_far = record {
        early = s.early ++ took.0;
        takes = takes_then (left c.args.input.now) (left c.reads.input) (left c.feed_piece.new.input) s.early took.0 s.takes took.4;
        count = omega (arith, s.count, took.1, took.3, length-append s.early took.0, length-take c.min-wanted.result c.reads.buffer);
        fed = fed_then c.args.self.now.reader c.reads.self.reader c.given_now.new.reader s.early took.0 s.fed fed;
        awaiting = none.1;
      };
      tells = record {
        later_ends = omega (arith, tells.later_ends, c.in-Took.ensures.later_ends);
        later_faults = omega (arith, tells.later_faults, c.in-Took.ensures.later_faults);
        ended = λ is. cc;
        failed = λ is. cc;
      };
    }

pub returns-in-End-clause-draws : goal.returns-in-End-clause-draws
returns-in-End-clause-draws g c =
    let took = c.in-End.ensures.takes in
    draws_end _ _ _ c.args.self.now _ c.reads.self.reader c.reads.self.room c.reads.invariant.so_far c.ended.result took.1 took.0 c.ended.ensures.next refl
    (λ is. cc) (λ is. took.2)

pub returns-in-Fault-clause-draws : goal.returns-in-Fault-clause-draws
returns-in-Fault-clause-draws g c =
    let took = c.in-Fault.ensures.takes in
    draws_end _ _ _ c.args.self.now _ c.reads.self.reader c.reads.self.room c.reads.invariant.so_far c.ended-in-Fault.result
    (subst (λ l. Takes (g.I.Source.left c.reads.input) l []) (sym took.1) (takes_nothing (g.I.Source.left c.reads.input))) took.0 c.ended-in-Fault.ensures.next refl
    (λ is. cc) (λ is. cc)

pub returns-in-Memory-clause-draws : goal.returns-in-Memory-clause-draws
returns-in-Memory-clause-draws g c =
    let took = c.in-Memory.ensures.takes in
    draws_on _ _ _ c.args.self.now _ c.reads.self.reader c.reads.self.room c.reads.invariant.so_far givens.Memory took.0 took.2
    (omega (arith, took.1, length-take c.min-wanted.result c.reads.buffer)) (omega (arith, took.1, length-take c.min-wanted.result c.reads.buffer)) tt
    (λ others. absurd (others refl)) (λ is. cc) (λ is. cc)

pub returns-in-Some-clause-draws : goal.returns-in-Some-clause-draws
returns-in-Some-clause-draws g c =
    let took = c.in-Took.ensures.takes in
    let given = c.in-Some.ensures in
    draws_on _ _ _ c.args.self.now _ c.reads.self.reader c.reads.self.room c.reads.invariant.so_far c.in-Some.given took.0 took.4
    (omega (arith, took.1, took.3, length-take c.min-wanted.result c.reads.buffer)) (omega (arith, took.1, took.3, length-take c.min-wanted.result c.reads.buffer))
    (gives_on c.in-Some.given c.reads.self.reader c.feed_piece.new.reader c.given_now.new.reader took.0 took.5 given.given)
    (λ others. omega (arith, took.1, took.3, length-take c.min-wanted.result c.reads.buffer)) (λ is. cc) (λ is. cc)

pub returns-clause-draws : goal.returns-clause-draws
returns-clause-draws g c =
    draws_end _ _ _ c.args.self.now _ c.reads.self.reader c.reads.self.room c.reads.invariant.so_far c.ended-2.result (takes_nothing (g.I.Source.left c.reads.input)) refl
    c.ended-2.ensures.next refl (λ is. omega arith) (λ is. cc)
