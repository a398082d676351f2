use Rattle.std.proofs.Common.{arith}
use Rattle.scfs_live.proofs.FarLemmas.{far_line, far_next, far_none, far_stop}
use Rattle.scfs_live.proofs.reopening.run_lines.Goals as goal

pub returns-in-Ok-None-clause-runs : goal.returns-in-Ok-None-clause-runs
returns-in-Ok-None-clause-runs g c = λ header taken start.
    far_none _ header taken c.lines.lines c.next_line.new.lines c.lines.running c.in-Ok-None.field-0 (c.lines.invariant header taken start) c.in-Ok-None.field-0-is
    c.in-Ok-None.ensures

pub returns-in-Err-clause-ends : goal.returns-in-Err-clause-ends
returns-in-Err-clause-ends g c = λ header taken start.
    far_next _ header taken c.lines.lines c.next_line.new.lines c.lines.running c.in-Err.end (c.lines.invariant header taken start) c.in-Err.ensures

pub on_line-requires-clause-world : goal.on_line-requires-clause-world
on_line-requires-clause-world g c =
    let start = c.requires.so_far in
    let far = c.lines.invariant start.0 start.1 start.2 in
    far.at.world

pub on_line-requires-clause-shown : goal.on_line-requires-clause-shown
on_line-requires-clause-shown g c =
    let start = c.requires.so_far in
    let far = c.lines.invariant start.0 start.1 start.2 in
    c.standing_worlds_are_shown.ensures c.lines.running.world start.0 far.place.past far.at.stands (omega (arith, far.at.few)) far.at.plays.happens

pub on_line-requires-clause-room : goal.on_line-requires-clause-room
on_line-requires-clause-room g c =
    let start = c.requires.so_far in
    let far = c.lines.invariant start.0 start.1 start.2 in
    omega (arith, far.at.few, far.at.stands.count)

pub returns-in-Err-on_line-clause-ends : goal.returns-in-Err-on_line-clause-ends
returns-in-Err-on_line-clause-ends g c = λ header taken start.
    let far = c.lines.invariant header taken start in
    far_stop _ header taken c.in-Ok-Some.line c.as_slice.result.now c.lines.lines c.next_line.new.lines c.lines.running c.in-Err-on_line.end far c.number.result
    c.in-Ok-Some.field-0 c.in-Ok-Some.field-0-is c.as_slice.ensures c.number.ensures c.in-Ok-Some.ensures (c.in-Err-on_line.ensures header far.place far.at)

pub lines-preserved : goal.lines-preserved
lines-preserved g c = λ header taken start.
    let far = c.lines.invariant header taken start in
    far_line _ header taken c.in-Ok-Some.line c.as_slice.result.now c.lines.lines c.next_line.new.lines c.lines.running c.in-Ok.next far c.number.result
    c.in-Ok-Some.field-0 c.in-Ok-Some.field-0-is c.as_slice.ensures c.in-Ok-Some.ensures (c.in-Ok.ensures header far.place far.at)
