use Rattle.std.proofs.Common.{◌∙◌, sym, refl}
use Rattle.scfs_tuples.proofs.EntriesLemmas.{removed}
use Rattle.scfs_tuples.proofs.ShelvesLemmas.{filed_removed}
use Rattle.scfs_tuples.proofs.shelves.Shelves.remove.Goals as goal

pub returns-in_ok-remove-3-clause-entries : goal.returns-in_ok-remove-3-clause-entries
returns-in_ok-remove-3-clause-entries c = c.remove.ensures.entries ∙ removed c.args.slot c.args.self.now.tuples.entries c.requires.apart

pub returns-in_default-clause-entries : goal.returns-in_default-clause-entries
returns-in_default-clause-entries c = c.remove.ensures.entries ∙ removed c.args.slot c.args.self.now.tuples.entries c.requires.apart

pub returns-in_ok-remove-3-clause-filed : goal.returns-in_ok-remove-3-clause-filed
returns-in_ok-remove-3-clause-filed c =
    filed_removed c.args.self.now _ c.args.slot c.in-Some.tuple _ _ _ c.requires (sym c.in-Some.ensures.value)
    c.in_ok-first_key.ensures c.in_ok-pair_key.ensures c.in_ok-pair_key-2.ensures
    c.in_ok-remove.ensures c.in_ok-remove-2.ensures c.in_ok-remove-3.ensures c.remove_end.ensures c.remove.ensures.entries refl
