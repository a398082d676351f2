use Rattle.std.proofs.Common.{◌∙◌, ap, sym, subst}
use Rattle.scfs_schedule.specs.declared.progress.FirstLine.TheVariants as firsts
use Rattle.scfs_schedule.specs.Holding.{Holding, StandsFirst}
use Rattle.scfs_schedule.specs.Splitting.{Splitting}
use Rattle.scfs_schedule.proofs.SplitLemmas.{line_given, line_too_long}
use Rattle.scfs_schedule.proofs.lines.Lines.next.Goals as goal

pub returns-in-TooLong : goal.returns-in-TooLong
returns-in-TooLong c =
    let view = c.self.view_is in
    let inside = c.self.inside in
    line_too_long c.args.self.now _ c.stop-in-TooLong.new.self c.stop-in-TooLong.result
    (ap (λ (h : Holding). record { which = inside.which; number = inside.number; rest = h.rest; room = h.room; longer = h.longer; passed = inside.passed }) c.first.ensures.same ∙ view)
    (sym (ap (λ (l : Splitting). l.passed) view) ∙ c.in_default.is)
    (subst (StandsFirst firsts.TooLong) (ap (λ (l : Splitting). l.rest) view) c.in-TooLong.ensures.first)
    c.stop-in-TooLong.ensures.stop
    c.stop-in-TooLong.ensures.passed

pub returns-in_ok-take_line-in-Whole : goal.returns-in_ok-take_line-in-Whole
returns-in_ok-take_line-in-Whole c =
    let view = c.self.view_is in
    let inside = c.self.inside in
    line_given c.args.self.now _ c.take_line.new.self c.in_ok-take_line-in-Whole.field-0 c.in-Whole.count
    (ap (λ (h : Holding). record { which = inside.which; number = inside.number; rest = h.rest; room = h.room; longer = h.longer; passed = inside.passed }) c.first.ensures.same ∙ view)
    (sym (ap (λ (l : Splitting). l.passed) view) ∙ c.in_default.is)
    (subst (StandsFirst (firsts.Whole c.in-Whole.count)) (ap (λ (l : Splitting). l.rest) view) c.in-Whole.ensures.first)
    c.in_ok-take_line-in-Whole.ensures.line
    c.in_ok-take_line-in-Whole.ensures.after
