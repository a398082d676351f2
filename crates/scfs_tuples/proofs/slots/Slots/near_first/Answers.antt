use Rattle.std.proofs.Common.{sym}
use Rattle.scfs_tuples.proofs.FewerLemmas.{fewer_near, first_near, second_near, third_near}
use Rattle.scfs_tuples.proofs.slots.Slots.near_first.Goals as goal

pub returns-in_ok-with_fewer-in-Some-third : goal.returns-in_ok-with_fewer-in-Some-third
returns-in_ok-with_fewer-in-Some-third c =
    fewer_near c.args.wants.now c.args.bound.now c.args.first.now c.in-Some.second.now c.in-Some-third.third.now c.args.self.now _
    c.requires (sym c.in-Some.ensures) (sym c.in-Some-third.ensures) c.in_ok-with_fewer-in-Some-third.ensures

pub returns-in_ok-with_second-in-None-third : goal.returns-in_ok-with_second-in-None-third
returns-in_ok-with_second-in-None-third c =
    second_near c.args.wants.now c.args.bound.now c.args.first.now c.in-Some.second.now c.args.self.now _
    c.requires (sym c.in-Some.ensures) (sym c.in-None-third.ensures) c.in_ok-with_second-in-None-third.ensures

pub returns-in_ok-with_third-in-Some-third-2 : goal.returns-in_ok-with_third-in-Some-third-2
returns-in_ok-with_third-in-Some-third-2 c =
    third_near c.args.wants.now c.args.bound.now c.args.first.now c.in-Some-third-2.third.now c.args.self.now _
    c.requires (sym c.in-None.ensures) (sym c.in-Some-third-2.ensures) c.in_ok-with_third-in-Some-third-2.ensures

pub returns-in_ok-with_first-in-None-third-2 : goal.returns-in_ok-with_first-in-None-third-2
returns-in_ok-with_first-in-None-third-2 c =
    first_near c.args.wants.now c.args.bound.now c.args.first.now c.args.self.now _
    c.requires (sym c.in-None.ensures) (sym c.in-None-third-2.ensures) c.in_ok-with_first-in-None-third-2.ensures
