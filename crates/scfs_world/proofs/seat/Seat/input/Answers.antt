use Rattle.std.proofs.Common.{refl}
use Rattle.std.proofs.lemmas.Result.{err_from_is_err_and}
use Rattle.scfs_world.specs.contracts.seat.Seat.{the_view}
use Rattle.scfs_world.proofs.DoneLemmas.{done_from, fault_from}
use Rattle.scfs_world.proofs.seat.Seat.input.Goals as goal

pub returns-in_err-do_outputs : goal.returns-in_err-do_outputs
returns-in_err-do_outputs g c =
    let p = err_from_is_err_and c.from_residual-in_err-do_outputs.result c.from_residual-in_err-do_outputs.ensures.1 in
    let it = c.in_ok-outputs.ensures in
    rw (p.1, p.2) (fault_from c.args.now c.args.input (the_view c.self.inside) c.args.self.now c.self.view_is c.args.net.now c.args.before
    (the_view (record { agent = c.on.new.self; asked = c.do_outputs.new.asked; replied = c.self.inside.replied })) c.do_outputs.new.net
    c.on.new.self c.in_ok-outputs.outputs (record { reacts = it.reacts; fits = it.asks; header = it.header; no = it.no; inputs = it.inputs })
    _ c.in_err-do_outputs.ensures.too_large)

pub returns : goal.returns
returns g c =
    let it = c.in_ok-outputs.ensures in
    let did = c.in_ok-do_outputs.ensures in
    done_from c.args.now c.args.input (the_view c.self.inside) c.args.self.now c.self.view_is c.args.net.now
    c.args.before (the_view (record { agent = c.on.new.self; asked = c.do_outputs.new.asked; replied = c.self.inside.replied })) c.do_outputs.new.net
    c.do_outputs.new.lines c.in_ok-outputs.outputs (record { reacts = it.reacts; fits = it.asks; header = it.header; no = it.no; inputs = it.inputs })
    did.asked refl did.net did.lines did.carried
