use Rattle.std.proofs.Common.{ℕ, [], ◌++◌, refl, ap, ◌∙◌, sym, subst, arith, length-append, length-take}
use Rattle.scfs_policy.specs.declared.rank.RankFacts.{RankFacts}
use Rattle.scfs_schedule.specs.Splitting.{Splitting, lines_of}
use Rattle.scfs_live.specs.declared.ending.LiveEnd.TheVariants as ends
use Rattle.scfs_live.specs.Rereading.{IsSoFar}
use Rattle.scfs_live.proofs.EdgeLemmas.{takes_nothing, takes_then}
use Rattle.scfs_live.proofs.FarLemmas.{far_fed, far_first, far_within, no_fault, stops_reading}
use Rattle.scfs_live.proofs.SplitLemmas.{is_unfinished-append}
use Rattle.scfs_live.proofs.reopening.run_again.Goals as goal

pub pieces-init : goal.pieces-init
pieces-init g c =
    let allows : RankFacts → ℕ → Type 0 = λ facts answer. g.R.Fn.post c.args.rank.now (facts, tt) answer in
    let header = c.args.header.now in
    let running = c.in_ok-running.running in
    let began = c.in_ok-running.ensures in
    record {
      taken = [];
      takes = takes_nothing (g.L.Source.left c.args.old.now);
      count = omega arith;
      far = subst (λ (s : Splitting). IsSoFar allows header [] s running) (sym c.new-lines.ensures) (far_first allows header running began.stands began.world began.awaited);
      none = ap (λ (s : Splitting). lines_of s []) c.new-lines.ensures;
      unfinished = refl;
      later_ends = omega arith;
      later_faults = omega arith;
    }

pub returns-in-Memory-clause-ends : goal.returns-in-Memory-clause-ends
returns-in-Memory-clause-ends g c =
    let left = g.L.Source.left in
    let i = c.pieces.invariant in
    let took = c.in-Memory.ensures.takes in
    stops_reading _ c.args.header.now (left c.args.old.now) (left c.pieces.old) (left c.feed_piece.new.old) i.taken took.0 ends.Memory i.takes took.2 tt

pub run_lines-requires-clause-so_far : goal.run_lines-requires-clause-so_far
run_lines-requires-clause-so_far g c =
    let i = c.pieces.invariant in
    let took = c.in-Took.ensures.takes in
    (c.args.header.now, i.taken ++ took.0, far_fed _ c.args.header.now i.taken took.0 c.pieces.lines c.feed_piece.new.lines c.pieces.running i.far took.5)

pub returns-in-Err-clause-ends : goal.returns-in-Err-clause-ends
returns-in-Err-clause-ends g c =
    let left = g.L.Source.left in
    let header = c.args.header.now in
    let i = c.pieces.invariant in
    let took = c.in-Took.ensures.takes in
    let fed = far_fed _ header i.taken took.0 c.pieces.lines c.feed_piece.new.lines c.pieces.running i.far took.5 in
    stops_reading _ header (left c.args.old.now) (left c.pieces.old) (left c.feed_piece.new.old) i.taken took.0 c.in-Err.end i.takes took.4
    (c.in-Err.ensures.ends header (i.taken ++ took.0) fed)

pub returns-in-Err-clause-fault : goal.returns-in-Err-clause-fault
returns-in-Err-clause-fault g c = λ is.
    let header = c.args.header.now in
    let i = c.pieces.invariant in
    let took = c.in-Took.ensures.takes in
    let fed = far_fed _ header i.taken took.0 c.pieces.lines c.feed_piece.new.lines c.pieces.running i.far took.5 in
    absurd (no_fault _ header (i.taken ++ took.0) c.in-Err.end (c.in-Err.ensures.ends header (i.taken ++ took.0) fed) is)

pub pieces-preserved : goal.pieces-preserved
pieces-preserved g c =
    let left = g.L.Source.left in
    let header = c.args.header.now in
    let i = c.pieces.invariant in
    let took = c.in-Took.ensures.takes in
    let fed = far_fed _ header i.taken took.0 c.pieces.lines c.feed_piece.new.lines c.pieces.running i.far took.5 in
    record {
      taken = i.taken ++ took.0;
      takes = takes_then (left c.args.old.now) (left c.pieces.old) (left c.feed_piece.new.old) i.taken took.0 i.takes took.4;
      count = omega (arith, i.count, took.1, took.3, length-append i.taken took.0, length-take c.min-wanted.result c.pieces.buffer);
      far = c.in-Ok.ensures.runs header (i.taken ++ took.0) fed;
      none = c.in-Ok.ensures.all;
      unfinished = is_unfinished-append i.taken took.0 (omega (arith, took.1, took.2)) ∙ took.6;
      later_ends = omega (arith, i.later_ends, c.in-Took.ensures.later_ends);
      later_faults = omega (arith, i.later_faults, c.in-Took.ensures.later_faults);
    }

pub unreachable-requires : goal.unreachable-requires
unreachable-requires g c =
    let i = c.pieces.invariant in
    far_within _ c.args.header.now i.taken c.pieces.lines c.pieces.running c.pieces.room i.far i.none i.count c.pieces-test.false
