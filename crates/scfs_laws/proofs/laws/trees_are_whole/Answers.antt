use Rattle.scfs_model.specs.Layers.{rows, closes}
use Rattle.scfs_laws.proofs.NamesApart.{names_differ}
use Rattle.scfs_laws.proofs.NamesLocks.{locks_are_alone}
use Rattle.scfs_laws.proofs.NewestOpens.{rows_keep, closes_keep}
use Rattle.scfs_laws.proofs.laws.trees_are_whole.Goals as goal

pub returns-clause-names : goal.returns-clause-names
returns-clause-names c = λ s past. names_differ s (closes s) (closes_keep s) past

pub returns-clause-locks : goal.returns-clause-locks
returns-clause-locks c = λ s past. locks_are_alone s (closes s) past

pub returns-clause-made_names : goal.returns-clause-made_names
returns-clause-made_names c = λ s past. names_differ s rows rows_keep past

pub returns-clause-made_locks : goal.returns-clause-made_locks
returns-clause-made_locks c = λ s past. locks_are_alone s rows past
