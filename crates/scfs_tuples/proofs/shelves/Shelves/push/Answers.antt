use Rattle.std.proofs.Common.{◌∙◌, refl}
use Rattle.scfs_tuples.proofs.EntriesLemmas.{pushed}
use Rattle.scfs_tuples.proofs.ShelvesLemmas.{filed_pushed}
use Rattle.scfs_tuples.proofs.shelves.Shelves.push.Goals as goal

pub returns-clause-entries : goal.returns-clause-entries
returns-clause-entries c =
    c.in_ok-insert-4.ensures.entries ∙ pushed c.args.self.now.next c.args.tuple c.args.self.now.tuples.entries c.requires.filed.below

pub returns-clause-filed : goal.returns-clause-filed
returns-clause-filed c =
    filed_pushed c.args.self.now _ c.args.tuple _ _ _ c.requires.filed c.in_ok-first_key.ensures c.in_ok-pair_key.ensures c.in_ok-pair_key-2.ensures
    c.in_ok-insert.ensures c.in_ok-insert-2.ensures c.in_ok-insert-3.ensures c.in_ok-add_end.ensures
    (c.in_ok-insert-4.ensures.entries ∙ pushed c.args.self.now.next c.args.tuple c.args.self.now.tuples.entries c.requires.filed.below) refl
