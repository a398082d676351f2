use Rattle.std.proofs.Common.{◌∙◌, ◌+◌, ap}
use Rattle.scfs_schedule.specs.declared.types.Header.{Header}
use Rattle.scfs_schedule.specs.declared.types.Place.TheVariants as places
use Rattle.scfs_schedule.proofs.ReadingLemmas.{cut_of, long_stop, moved, began, gave, ended, stopped_at}
use Rattle.scfs_schedule.proofs.reader.Reader.read_line.Goals as goal

pub returns-in-Moves : goal.returns-in-Moves
returns-in-Moves c =
    moved c.args.self.now c.cut_line.new.self c.go_to.new.self c.in-Moves.place c.requires
    (cut_of _ _ c.in_ok-cut_line.field-0 c.in-Line.said _ c.in_ok-cut_line.ensures c.in-Line.is c.in-Moves.is)
    c.go_to.ensures

pub returns-in_ok-copy-in-Begins : goal.returns-in_ok-copy-in-Begins
returns-in_ok-copy-in-Begins c =
    began c.args.self.now c.cut_line.new.self c.go_to-in-Begins.new.self c.in-Begins.header c.requires
    (cut_of _ _ c.in_ok-cut_line.field-0 c.in-Line.said _ c.in_ok-cut_line.ensures c.in-Line.is c.in-Begins.is)
    (c.go_to-in-Begins.ensures ∙ ap (λ (h : Header). record c.cut_line.new.self { place = places.Events h; lines = c.cut_line.new.self.lines + 1 }) c.in_ok-copy-in-Begins.ensures)

pub returns-in-Says : goal.returns-in-Says
returns-in-Says c =
    gave c.args.self.now c.cut_line.new.self c.pass_line.new.self c.in-Says.event c.requires
    (cut_of _ _ c.in_ok-cut_line.field-0 c.in-Line.said _ c.in_ok-cut_line.ensures c.in-Line.is c.in-Says.is)
    c.pass_line.ensures

pub returns-in-Ends : goal.returns-in-Ends
returns-in-Ends c =
    ended c.args.self.now c.cut_line.new.self c.end_with.new.self c.requires
    (cut_of _ _ c.in_ok-cut_line.field-0 c.in-Line.said _ c.in_ok-cut_line.ensures c.in-Line.is c.in-Ends.is)
    c.end_with.ensures

pub returns-in-Wrong : goal.returns-in-Wrong
returns-in-Wrong c =
    stopped_at c.args.self.now c.cut_line.new.self c.stop_bad.new.self c.in-Wrong.kind c.stop_bad.result c.requires
    (cut_of _ _ c.in_ok-cut_line.field-0 c.in-Line.said _ c.in_ok-cut_line.ensures c.in-Line.is c.in-Wrong.is)
    c.stop_bad.ensures.stop c.stop_bad.ensures.ending

pub returns-in-LongLine : goal.returns-in-LongLine
returns-in-LongLine c =
    long_stop c.args.self.now c.cut_line.new.self c.stop_too_large.new.self c.in_ok-cut_line.field-0 c.stop_too_large.result c.requires
    c.in_ok-cut_line.ensures c.in-LongLine.is c.stop_too_large.ensures.stop c.stop_too_large.ensures.ending
