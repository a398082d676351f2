use Rattle.std.proofs.Common.{ap}
use Rattle.scfs_quorum_read.specs.Tracking.{Tracker}
use Rattle.scfs_quorum_read.proofs.PieceLemmas.{IsTracker-kept}
use Rattle.scfs_quorum_read.proofs.tracker.ReadTracker.keep.Goals as goal

pub invariant_of-self-2 : goal.invariant_of-self-2
invariant_of-self-2 c =
    let inside = c.self.inside in
    IsTracker-kept inside.f inside.length inside.order.items inside.asked inside.pieces.items c.push.new.self.items
    c.in_ok-piece.piece _ c.args.self.now c.self.invariant (ap (λ (t : Tracker). t.pieces) c.self.view_is)
    (ap (λ (t : Tracker). t.reading.f) c.self.view_is) (ap (λ (t : Tracker). t.reading.size) c.self.view_is)
    c.requires.open c.requires.first c.requires.form c.requires.length c.in_ok-piece.ensures c.in_ok-push.ensures.items
