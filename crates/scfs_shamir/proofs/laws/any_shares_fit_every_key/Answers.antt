use Rattle.scfs_shamir.proofs.FittedLemmas.{fitted, can_fit, fitted_is_only}
use Rattle.scfs_shamir.proofs.laws.any_shares_fit_every_key.Goals as goal

pub returns : goal.returns
returns c f shares key low high count each distinct row =
    (fitted shares key, fitted_is_only f shares key (can_fit f shares key low high row count each distinct))
