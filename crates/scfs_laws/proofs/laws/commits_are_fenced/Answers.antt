use Rattle.scfs_model.specs.Layers.{rows, closes}
use Rattle.scfs_laws.proofs.NewestOpens.{rows_keep, closes_keep}
use Rattle.scfs_laws.proofs.Fenced.{commits_fenced}
use Rattle.scfs_laws.proofs.laws.commits_are_fenced.Goals as goal

pub returns-clause-made : goal.returns-clause-made
returns-clause-made c = λ s past happens. commits_fenced s rows rows_keep past happens

pub returns-clause-due : goal.returns-clause-due
returns-clause-due c = λ s past run. commits_fenced s (closes s) (closes_keep s) past run
