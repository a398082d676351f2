use Rattle.std.proofs.Common.{◌≡◌, List, length, Option, Bool, sym, ap, ◌∙◌, refl, arith}
use Rattle.std.specs.Prelude.{◌&&◌}
use Rattle.std.specs.Option.{option_copied}
use Rattle.scfs_model.specs.Layers.{Row}
use Rattle.scfs_model.specs.Agents.{Request}
use Rattle.scfs_agent.specs.Telling.{reads_version, shows_version}
use Rattle.scfs_agent.specs.declared.work.Pending.{Pending}
use Rattle.scfs_agent.proofs.PendingLemmas.{get_none, none_there, asked_there}
use Rattle.scfs_agent.proofs.agent.Agent.reads_version.Goals as goal

pub returns-in-None : goal.returns-in-None
returns-in-None c =
    let past = get_none c.self.inside.pending c.place_of-at.result (sym c.get.ensures.value ∙ ap option_copied c.in-None.is) in
    let behind : c.place_of-at.result ≡ length c.self.inside.pending =
    omega (arith, past, c.place_of-at.ensures.within, ap (λ (xs : List Pending). length xs) c.as_slice.ensures) in
    ap (λ (p : Option (Request Row)). reads_version p c.args.reply.now.result)
    (sym (none_there c.args.request c.self.inside.pending c.as_slice.result.now c.place_of-at.result c.as_slice.ensures c.place_of-at.ensures.place
    c.args.self.now _
    c.self.view_is refl behind))

pub returns-then-is_open : goal.returns-then-is_open
returns-then-is_open c =
    c.shows_version.ensures ∙ ap (λ (b : Bool). b && shows_version c.args.reply.now.result) (sym c.if-is_open.true ∙ c.is_open.ensures)
    ∙ ap (λ (p : Option (Request Row)). reads_version p c.args.reply.now.result)
    (sym (asked_there c.args.request c.self.inside.pending c.as_slice.result.now c.place_of-at.result c.as_slice.ensures c.place_of-at.ensures.place
    c.args.self.now _
    c.self.view_is refl c.in-Some.asked.now (sym c.get.ensures.value ∙ ap option_copied c.in-Some.is)))

pub returns-else-is_open : goal.returns-else-is_open
returns-else-is_open c =
    c.if-is_open.false ∙ ap (λ (b : Bool). b && shows_version c.args.reply.now.result) (sym c.if-is_open.false ∙ c.is_open.ensures)
    ∙ ap (λ (p : Option (Request Row)). reads_version p c.args.reply.now.result)
    (sym (asked_there c.args.request c.self.inside.pending c.as_slice.result.now c.place_of-at.result c.as_slice.ensures c.place_of-at.ensures.place
    c.args.self.now _
    c.self.view_is refl c.in-Some.asked.now (sym c.get.ensures.value ∙ ap option_copied c.in-Some.is)))
