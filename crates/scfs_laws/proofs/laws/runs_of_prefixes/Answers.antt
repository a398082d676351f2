use Rattle.scfs_laws.proofs.NewestRuns.{run_of_prefix, happens_of_prefix}
use Rattle.scfs_laws.proofs.laws.runs_of_prefixes.Goals as goal

pub returns-clause-run : goal.returns-clause-run
returns-clause-run c = run_of_prefix

pub returns-clause-happens : goal.returns-clause-happens
returns-clause-happens c = happens_of_prefix
