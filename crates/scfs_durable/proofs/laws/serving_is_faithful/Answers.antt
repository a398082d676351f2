use Rattle.scfs_durable.proofs.Faithful.{hiding_is_stale, serving_is_faithful}
use Rattle.scfs_durable.proofs.laws.serving_is_faithful.Goals as goal

pub returns : goal.returns
returns c = record { serves = serving_is_faithful; hides = hiding_is_stale }
