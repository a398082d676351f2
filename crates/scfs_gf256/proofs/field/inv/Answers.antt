use Rattle.std.proofs.Common.{sym, ap, ap₂, ◌∙◌, ◌-◌, ◌+◌, arith}
use Rattle.scfs_gf256.specs.Field.{times}
use Rattle.scfs_gf256.proofs.Powers.{squares, squares-turn, squares-end, inverse_of-squares, times-inverse_of}
use Rattle.scfs_gf256.proofs.field.inv.Goals as goal

pub loop-turn-preserved : goal.loop-turn-preserved
loop-turn-preserved c =
    let square = c.loop-turn.square in
    let product = c.loop-turn.product in
    ap₂ (squares (7 - (c.loop-turn._turn + 1))) c.mul-square.ensures (c.mul-product.ensures ∙ ap (times product) c.mul-square.ensures)
    ∙ sym (squares-turn 7 c.loop-turn._turn square product (omega arith))
    ∙ c.loop-turn.invariant

pub returns : goal.returns
returns c =
    let ended = squares-end 7 c.loop-turn._turn c.loop-turn.square c.loop-turn.product (omega arith) in
    ap (times c.args.a) (sym ended ∙ c.loop-turn.invariant ∙ inverse_of-squares c.args.a (omega arith))
    ∙ times-inverse_of c.args.a (omega arith) c.requires
