use Rattle.std.proofs.Common.{◌≡◌, ◌+◌, ◌++◌, [], Bool, true, if◌then◌else◌, refl, sym, ap, ◌∙◌, arith, append-nil}
use Rattle.scfs_schedule.specs.Reading.{Reading, gives, read, with_header}
use Rattle.scfs_top.specs.declared.closing.Finish.TheVariants as finishes
use Rattle.scfs_top.specs.Playing.{finished, header_lines, under_header}
use Rattle.scfs_top.specs.Scripting.{driven, events_driven}
use Rattle.scfs_top.proofs.ScriptLemmas.{header_kept, reads_first}
use Rattle.scfs_top.proofs.run.read_header.Goals as goal

pub returns-in-Memory-clause-reads : goal.returns-in-Memory-clause-reads
returns-in-Memory-clause-reads g c =
    let d = c.in-Memory.ensures.draws in
    (d.0, reads_first _ _ d.0 _ _ _ _ c.requires.fresh d.1 refl c.in-Memory.ensures.tells, tt, header_kept _ d.0 c.requires.fresh.unread d.2)

pub returns-in-Ended-clause-reads : goal.returns-in-Ended-clause-reads
returns-in-Ended-clause-reads g c =
    let d = c.in-Ended.ensures.draws in
    let draws = d.1 in (
      d.0,
      reads_first _ _ d.0 _ _ _ _ c.requires.fresh d.1 refl c.in-Ended.ensures.tells,
      (refl, ap driven (sym (ap (λ (r : Reading). gives r d.0) c.requires.fresh.unread) ∙ draws.next)),
      header_kept _ d.0 c.requires.fresh.unread d.2,
    )

pub returns-then-not-is_built_header-clause-reads : goal.returns-then-not-is_built_header-clause-reads
returns-then-not-is_built_header-clause-reads g c =
    let header = c.in-Header.header in
    let d = c.in-Header.ensures.draws in
    let draws = d.1 in
    let rest = gives c.next_alone.new.self.reader [] in
    let says : read true d.0 ≡ with_header header rest =
    sym (ap (λ (r : Reading). gives r d.0) c.requires.fresh.unread) ∙ ap (gives c.args.intake.now.reader) (sym (append-nil d.0)) ∙ draws.next.4 [] in (
      d.0,
      reads_first _ _ d.0 _ _ _ _ c.requires.fresh d.1 refl c.in-Header.ensures.tells,
      (
        refl,
        ap driven says
            ∙ ap (λ (b : Bool). if b then under_header header (events_driven (header_lines header + 1) rest.events rest.ending) else finished (finishes.Unbuilt (header_lines header)))
            (sym c.if-not-is_built_header.ensures)
            ∙ ap (λ n. finished (finishes.Unbuilt n)) (sym (c.line.ensures ∙ draws.next.3)),
      ),
      header_kept _ d.0 c.requires.fresh.unread d.2,
    )

pub returns-else-not-is_built_header-clause-reads : goal.returns-else-not-is_built_header-clause-reads
returns-else-not-is_built_header-clause-reads g c =
    let d = c.in-Header.ensures.draws in
    let draws = d.1 in
    let tells = c.in-Header.ensures.tells in (
      record {
        taken = d.0;
        takes = draws.takes;
        room = draws.leaves (λ is. cc) ∙ c.requires.fresh.room;
        says = λ later. sym (ap (λ (r : Reading). gives r (d.0 ++ later)) c.requires.fresh.unread) ∙ draws.next.4 later;
        place = draws.next.1;
        lines = omega (arith, draws.next.3);
        header_built = sym c.if-not-is_built_header.ensures;
        built = tt;
        later_ends = tells.later_ends;
        later_faults = tells.later_faults;
      },
      header_kept _ d.0 c.requires.fresh.unread d.2,
    )
