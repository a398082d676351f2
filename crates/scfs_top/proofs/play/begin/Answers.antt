use Rattle.std.proofs.Common.{◌≡◌, ◌+◌, ◌++◌, [], Bool, false, if◌then◌else◌, refl, sym, ap, ◌∙◌, subst, arith, append-nil}
use Rattle.scfs_base.specs.Outside.{Takes}
use Rattle.scfs_schedule.specs.Reading.{Reading, gives, read, with_header}
use Rattle.scfs_schedule.specs.declared.types.Header.{Header}
use Rattle.scfs_live.specs.Edges.{GetsPart}
use Rattle.scfs_top.specs.declared.closing.Finish.TheVariants as finishes
use Rattle.scfs_top.specs.declared.closing.Filled.TheVariants as filleds
use Rattle.scfs_top.specs.declared.intake.Given.{Given}
use Rattle.scfs_top.specs.declared.play.Played.TheVariants as playeds
use Rattle.scfs_top.specs.Giving.{Draws}
use Rattle.scfs_top.specs.Playing.{events_played, finished, header_lines, played, under_header}
use Rattle.scfs_top.specs.Plays.{SoFar}
use Rattle.scfs_top.proofs.EdgeLemmas.{takes_nothing}
use Rattle.scfs_top.proofs.PaceLemmas.{pace_nothing}
use Rattle.scfs_top.proofs.RunLemmas.{asked_first, ran, ran_fault}
use Rattle.scfs_top.proofs.play.begin.Goals as goal

pub returns-in-Err-clause-ran : goal.returns-in-Err-clause-ran
returns-in-Err-clause-ran g c =
    let left = g.I.Source.left in
    let written = g.O.Sink.written in
    let part = c.in-Err.ensures.part in (
      [],
      ran_fault (left c.args.input.now) (left c.next.new.input) (written c.args.out.now) (written c.next.new.out) c.next.new.waiting [] [] (written c.args.out.now) part.0.front
          (subst (λ i. Takes (left c.args.input.now) (left i) []) (sym part.1) (takes_nothing (left c.args.input.now))) (omega arith) (pace_nothing (written c.args.out.now)) part.0.puts
          (subst (λ l. GetsPart (written c.args.out.now) (written c.next.new.out) l) c.requires.nothing part.0),
      tt,
    )

pub returns-in-Ok-Memory-clause-ran : goal.returns-in-Ok-Memory-clause-ran
returns-in-Ok-Memory-clause-ran g c =
    let d = c.in-Ok-Memory.ensures.draws in
    let asked = asked_first _ _ _ _ c.args.waiting.now c.next.new.waiting d.0 c.args.intake.now c.next.new.self c.in-Ok-Memory.field-0 c.requires.fresh c.requires.nothing
    d.1 d.2 c.in-Ok-Memory.ensures.passes in
    (d.0, ran _ _ _ _ c.next.new.waiting d.0 [] playeds.Memory asked (λ is. cc) (λ is. cc) tt asked.wrote, tt)

pub returns-in-Ok-Ended-clause-ran : goal.returns-in-Ok-Ended-clause-ran
returns-in-Ok-Ended-clause-ran g c =
    let left = g.I.Source.left in
    let d = c.in-Ok-Ended.ensures.draws in
    let asked = asked_first _ _ _ _ c.args.waiting.now c.next.new.waiting d.0 c.args.intake.now c.next.new.self c.in-Ok-Ended.field-0 c.requires.fresh c.requires.nothing
    d.1 d.2 c.in-Ok-Ended.ensures.passes in
    let draws = subst (λ (x : Given). Draws (left c.args.input.now) (left c.next.new.input) d.0 c.args.intake.now c.next.new.self x) c.in-Ok-Ended.field-0-is d.1 in (
      d.0,
      ran _ _ _ _ c.next.new.waiting d.0 [] (playeds.Ended 0 (finishes.Text c.in-Ok-Ended.ending) c.in-Ok-Ended.filled) asked
          (λ is. draws.full is ∙ c.requires.fresh.room) draws.nothing_left refl asked.wrote,
      ap played (sym (ap (λ (r : Reading). gives r d.0) c.requires.fresh.unread) ∙ draws.next),
    )

pub returns-then-not-is_built_header-clause-ran : goal.returns-then-not-is_built_header-clause-ran
returns-then-not-is_built_header-clause-ran g c =
    let left = g.I.Source.left in
    let header = c.in-Ok-Header.header in
    let d = c.in-Ok-Header.ensures.draws in
    let asked = asked_first _ _ _ _ c.args.waiting.now c.next.new.waiting d.0 c.args.intake.now c.next.new.self c.in-Ok-Header.field-0 c.requires.fresh c.requires.nothing
    d.1 d.2 c.in-Ok-Header.ensures.passes in
    let draws = subst (λ (x : Given). Draws (left c.args.input.now) (left c.next.new.input) d.0 c.args.intake.now c.next.new.self x) c.in-Ok-Header.field-0-is d.1 in
    let rest = gives c.next.new.self.reader [] in
    let says : read false d.0 ≡ with_header header rest =
    sym (ap (λ (r : Reading). gives r d.0) c.requires.fresh.unread) ∙ ap (gives c.args.intake.now.reader) (sym (append-nil d.0)) ∙ draws.next.4 [] in (
      d.0,
      ran _ _ _ _ c.next.new.waiting d.0 [] (playeds.Ended 0 (finishes.Unbuilt c.line.result) filleds.Open) asked (λ is. cc) (λ is. cc) refl asked.wrote,
      ap played says
          ∙ ap (λ (b : Bool). if b then under_header header (events_played (header_lines header + 1) 0 rest.events rest.ending) else finished (finishes.Unbuilt (header_lines header)))
          (sym c.if-not-is_built_header.ensures)
          ∙ ap (λ n. finished (finishes.Unbuilt n)) (sym (c.line.ensures ∙ draws.next.3)),
    )

pub returns-in-Ok-clause-begun : goal.returns-in-Ok-clause-begun
returns-in-Ok-clause-begun g c =
    let left = g.I.Source.left in
    let written = g.O.Sink.written in
    let header = c.in-Ok-Header.header in
    let d = c.in-Ok-Header.ensures.draws in
    let asked = asked_first _ _ _ _ c.args.waiting.now c.next.new.waiting d.0 c.args.intake.now c.next.new.self c.in-Ok-Header.field-0 c.requires.fresh c.requires.nothing
    d.1 d.2 c.in-Ok-Header.ensures.passes in
    let draws = subst (λ (x : Given). Draws (left c.args.input.now) (left c.next.new.input) d.0 c.args.intake.now c.next.new.self x) c.in-Ok-Header.field-0-is d.1 in
    subst (λ (h : Header). SoFar (left c.args.input.now) (left c.next.new.input) (written c.args.out.now) (written c.next.new.out) c.next.new.self c.next.new.waiting h [])
    (sym c.in-Ok.ensures.stands.by_header)
    (record {
      taken = d.0;
      takes = asked.takes;
      room = draws.leaves (λ is. cc) ∙ c.requires.fresh.room;
      says = λ later. sym (ap (λ (r : Reading). gives r (d.0 ++ later)) c.requires.fresh.unread) ∙ draws.next.4 later;
      place = draws.next.1;
      lines = omega (arith, draws.next.3);
      wrote = asked.wrote;
      pace = asked.pace;
    })

pub returns-in-Err-new-clause-ran : goal.returns-in-Err-new-clause-ran
returns-in-Err-new-clause-ran g c =
    let d = c.in-Ok-Header.ensures.draws in
    let asked = asked_first _ _ _ _ c.args.waiting.now c.next.new.waiting d.0 c.args.intake.now c.next.new.self c.in-Ok-Header.field-0 c.requires.fresh c.requires.nothing
    d.1 d.2 c.in-Ok-Header.ensures.passes in
    (d.0, ran _ _ _ _ c.next.new.waiting d.0 [] playeds.Memory asked (λ is. cc) (λ is. cc) tt asked.wrote, tt)
