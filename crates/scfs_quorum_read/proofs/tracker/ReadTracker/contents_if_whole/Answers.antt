use Rattle.std.proofs.Common.{sym, subst, arith}
use Rattle.scfs_unit.specs.Unsealing.{AreEnough}
use Rattle.scfs_quorum_read.proofs.PieceLemmas.{AreEnough-kept}
use Rattle.scfs_quorum_read.proofs.tracker.ReadTracker.contents_if_whole.Goals as goal

pub open_unit-requires-clause-enough : goal.open_unit-requires-clause-enough
open_unit-requires-clause-enough c =
    let inside = c.self.inside in
    subst (AreEnough inside.f) (sym c.deref.ensures.value)
    (AreEnough-kept inside.f inside.length inside.order.items inside.asked inside.pieces.items c.self.invariant (omega arith))
