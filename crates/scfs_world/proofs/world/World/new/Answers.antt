use Rattle.std.proofs.Common.{◌∷◌, ◌++◌, [], ap, sym, ◌∙◌, arith}
use Rattle.scfs_world.proofs.NewLemmas.{new_seats, one_more, new_stands, new_world}
use Rattle.scfs_world.proofs.world.World.new.Goals as goal

pub loop-no-preserved : goal.loop-no-preserved
loop-no-preserved c =
    c.in_ok-push.ensures.items ∙ ap (λ seats. seats ++ c.in_ok-new.field-0 ∷ []) c.loop-no.invariant
    ∙ ap (λ seat. new_seats c.args.header c.loop-no.no ++ seat ∷ []) c.in_ok-new.ensures ∙ sym (one_more c.args.header c.loop-no.no)

pub returns-clause-stands : goal.returns-clause-stands
returns-clause-stands c =
    new_stands c.args.header c.new-3.result c.loop-no.seats.items c.in_ok-net.net c.new-3.ensures
    (c.loop-no.invariant ∙ ap (new_seats c.args.header) (omega arith)) c.in_ok-net.ensures

pub returns-clause-world : goal.returns-clause-world
returns-clause-world c =
    new_world c.args.header c.new-3.result c.loop-no.seats.items c.in_ok-net.net c.new-3.ensures
    (c.loop-no.invariant ∙ ap (new_seats c.args.header) (omega arith)) c.in_ok-net.ensures c.requires.header
