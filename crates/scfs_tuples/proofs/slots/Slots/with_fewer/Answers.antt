use Rattle.scfs_tuples.proofs.EndedLemmas.{pair_slots}
use Rattle.scfs_tuples.proofs.FewerLemmas.{front_fewer, later_fewer}
use Rattle.scfs_tuples.proofs.slots.Slots.with_fewer.Goals as goal

pub returns-then-count : goal.returns-then-count
returns-then-count c =
    later_fewer _ _ _ _ _ _ _
    (pair_slots 1 _ c.in_ok-second.second c.args.first.now c.args.second.now _ c.args.self.now (c.self.invariant.second c.in_ok-second.second) c.in_ok-second.ensures c.self.view_is)
    (pair_slots 2 _ c.in_ok-third.third c.args.first.now c.args.third.now _ c.args.self.now (c.self.invariant.third c.in_ok-third.third) c.in_ok-third.ensures c.self.view_is)
    c.count.ensures c.count-2.ensures c.if-count.true c.in_ok-at.ensures

pub returns : goal.returns
returns c =
    front_fewer _ _ _ _ _ _ _
    (pair_slots 1 _ c.in_ok-second.second c.args.first.now c.args.second.now _ c.args.self.now (c.self.invariant.second c.in_ok-second.second) c.in_ok-second.ensures c.self.view_is)
    (pair_slots 2 _ c.in_ok-third.third c.args.first.now c.args.third.now _ c.args.self.now (c.self.invariant.third c.in_ok-third.third) c.in_ok-third.ensures c.self.view_is)
    c.count.ensures c.count-2.ensures c.if-count.false c.in_ok-at-2.ensures
