use Rattle.std.proofs.Common.{◌≡◌, length}
use Rattle.scfs_tuples.specs.Matching.{fits}
use Rattle.scfs_tuples.proofs.matching.fits_to.Given as goal

abbrev pub invariant-each : goal.invariant-each
invariant-each l = fits l.initial.wants l.initial.fields l.bound ≡ fits l.wants l.fields l.binding

abbrev pub decreases-each : goal.decreases-each
decreases-each l = length l.wants
