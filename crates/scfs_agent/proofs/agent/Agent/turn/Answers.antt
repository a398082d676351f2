use Rattle.std.proofs.Common.{List, sym, subst}
use Rattle.std.specs.List.{All}
use Rattle.std.proofs.lemmas.List.Elements.{All-append}
use Rattle.scfs_agent.specs.State.{AgentState}
use Rattle.scfs_agent.specs.Keeping.{FitsOutput}
use Rattle.scfs_agent.specs.declared.types.Output.{Output}
use Rattle.scfs_agent.proofs.LeaseLemmas.{turned_gives}
use Rattle.scfs_agent.proofs.agent.Agent.turn.Goals as goal

pub returns-clause-gives : goal.returns-clause-gives
returns-clause-gives c =
    turned_gives c.args.self.now c.renew_due.new.self c.args.now c.in_ok-given.given c.in_ok-more.more c.extend.new.all c.in_ok-given.ensures.gives
    c.in_ok-given.ensures.after c.in_ok-more.ensures.gives c.in_ok-extend.ensures

pub returns-clause-asks : goal.returns-clause-asks
returns-clause-asks c =
    let fits : List Output → Type 0 = All (FitsOutput c.args.self.now.header.f) in
    let more = subst (λ (a : AgentState). All (FitsOutput a.header.f) c.in_ok-more.more) c.in_ok-given.ensures.after c.in_ok-more.ensures.asks in
    subst fits (sym c.in_ok-extend.ensures)
    (All-append (FitsOutput c.args.self.now.header.f) c.in_ok-given.given c.in_ok-more.more c.in_ok-given.ensures.asks more)
