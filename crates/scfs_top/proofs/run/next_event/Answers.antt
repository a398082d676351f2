use Rattle.std.proofs.Common.{◌++◌, refl, sym, ap, ◌∙◌, Some}
use Rattle.scfs_top.specs.declared.closing.Finish.TheVariants as finishes
use Rattle.scfs_top.specs.Outer.{SourceView, source}
use Rattle.scfs_top.proofs.ScriptLemmas.{can_be_given, leads_further, leads_to_end, leads_to_unbuilt, reaches_on, reads_on, with_next}
use Rattle.scfs_top.proofs.run.next_event.Goals as goal

pub returns-in-Memory : goal.returns-in-Memory
returns-in-Memory g c = record {
  gives = λ first header done s.
      let d = c.in-Memory.ensures.draws in (
        s.taken ++ d.0,
        reads_on first _ _ s.taken d.0 _ _ _ _ s.takes s.room s.later_ends s.later_faults d.1 refl c.in-Memory.ensures.tells,
        reaches_on first _ c.args.intake.now header done s d.0 d.2,
        leads_further first _ c.args.intake.now header done s d.0,
      );
}

pub returns-in-Ended : goal.returns-in-Ended
returns-in-Ended g c = record {
  gives = λ first header done s.
      let d = c.in-Ended.ensures.draws in
      let draws = d.1 in (
        s.taken ++ d.0,
        reads_on first _ _ s.taken d.0 _ _ _ _ s.takes s.room s.later_ends s.later_faults d.1 refl c.in-Ended.ensures.tells,
        reaches_on first _ c.args.intake.now header done s d.0 d.2,
        (refl, leads_to_end first _ c.args.intake.now header done s d.0 c.in-Ended.ending draws.next),
      );
}

pub returns-then-not-is_built : goal.returns-then-not-is_built
returns-then-not-is_built g c = record {
  gives = λ first header done s.
      let d = c.in-Event.ensures.draws in
      let isnt = sym c.if-not-is_built.ensures in
      let next : SourceView = source (g.I.Source.left c.next_alone.new.input) (g.I.Source.ends c.next_alone.new.input) (g.I.Source.faults c.next_alone.new.input) in
      let is = leads_to_unbuilt first _ c.args.intake.now header done s next d.0 c.next_alone.new.self c.in-Event.event d.1 isnt in (
        s.taken ++ d.0,
        reads_on first _ _ s.taken d.0 _ _ _ _ s.takes s.room s.later_ends s.later_faults d.1 refl c.in-Event.ensures.tells,
        reaches_on first _ c.args.intake.now header done s d.0 d.2,
        (refl, is ∙ ap (λ n. record { header = Some header; events = done; finish = finishes.Unbuilt n }) (sym c.line.ensures)),
      );
}

pub returns-else-not-is_built : goal.returns-else-not-is_built
returns-else-not-is_built g c = record {
  gives = λ first header done s.
      let d = c.in-Event.ensures.draws in
      let is = sym c.if-not-is_built.ensures in
      let next : SourceView = source (g.I.Source.left c.next_alone.new.input) (g.I.Source.ends c.next_alone.new.input) (g.I.Source.faults c.next_alone.new.input) in
      let longer = with_next first _ c.args.intake.now header done s next d.0 c.next_alone.new.self c.in-Event.event d.1 c.in-Event.ensures.tells is d.2 in
      (longer.0, longer.1, can_be_given first _ c.args.intake.now header done s next d.0 c.next_alone.new.self c.in-Event.event d.1 is);
}
