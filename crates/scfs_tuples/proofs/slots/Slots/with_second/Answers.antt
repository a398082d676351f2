use Rattle.std.proofs.Common.{◌∙◌}
use Rattle.scfs_tuples.proofs.EndedLemmas.{pair_slots}
use Rattle.scfs_tuples.proofs.slots.Slots.with_second.Goals as goal

pub returns : goal.returns
returns c =
    pair_slots 1 _ c.in_ok-key.key c.args.first.now c.args.second.now _ c.args.self.now (c.in_ok-at.ensures ∙ c.self.invariant.second c.in_ok-key.key)
    c.in_ok-key.ensures c.self.view_is
