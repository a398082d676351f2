use Rattle.std.proofs.Common.{sym}
use Rattle.scfs_tuples.proofs.FewerLemmas.{all_near}
use Rattle.scfs_tuples.proofs.slots.Slots.near.Goals as goal

pub returns-in_ok-all-in-None-clause-near : goal.returns-in_ok-all-in-None-clause-near
returns-in_ok-all-in-None-clause-near c =
    all_near c.args.wants.now c.args.bound.now c.args.self.now _ (sym c.in-None.ensures) c.in_ok-all-in-None.ensures.slots
