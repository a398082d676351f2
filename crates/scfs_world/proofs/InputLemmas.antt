-- An input that was done at a seat is done as on the machine.
use Rattle.std.proofs.Common.{◌≡◌, ℕ, ◌+◌, ◌<◌, List, ◌++◌, map, refl, ap, sym, subst, ◌∙◌, arith, le_refl, append_assoc, Result, Ok, Err}
use Rattle.std.proofs.lemmas.List.{map-append}
use Rattle.scfs_base.specs.Limits.{carried_limit}
use Rattle.scfs_policy.specs.declared.rank.RankFacts.{RankFacts}
use Rattle.scfs_schedule.specs.declared.types.Header.{Header}
use Rattle.scfs_schedule.specs.declared.types.Line.{Line}
use Rattle.scfs_tuples.specs.declared.types.Tuple.{Tuple}
use Rattle.scfs_net.specs.Queues.{NetState}
use Rattle.scfs_anchor.specs.Holding.{Holds}
use Rattle.scfs_anchor.proofs.HoldLemmas.{holds_on}
use Rattle.scfs_model.specs.UnitFormat.{under}
use Rattle.scfs_model.specs.Layers.{Row, rows}
use Rattle.scfs_model.specs.Sayings.{said_by}
use Rattle.scfs_model.specs.Agents as machine
use Rattle.scfs_model.specs.Agents.{Agent, Sent, Reaction}
use Rattle.scfs_model.specs.States.{Seat, State, Effect, did, comes, request_line}
use Rattle.scfs_laws.proofs.Lists.{each-append}
use Rattle.scfs_agent.specs.Reacting.{DoesAs, DoesRanked, Reacts, reaction_by}
use Rattle.scfs_agent.specs.declared.types.Input.{Input}
use Rattle.scfs_agent.specs.declared.types.Output.{Output}
use Rattle.scfs_world.specs.Doing.{IsDone, Comes}
use Rattle.scfs_world.specs.Seating.{Leaves, Becomes}
use Rattle.scfs_world.specs.Shows.{Together, step_asked, CanBeServed, ShowsReply, ShowsSeat}
use Rattle.scfs_world.specs.State.{SeatState}
use Rattle.scfs_world.specs.declared.fault.StepFault.{StepFault}
use Rattle.scfs_world.specs.declared.fault.StepFault.TheVariants as faults
use Rattle.scfs_world.proofs.OutputLemmas.{lines_reacted, steps_reacted, net_reacted}

module _ (allows : RankFacts → ℕ → Type 0) (now : ℕ) (space : List Tuple) (header : Header) (a most : ℕ) (input : Input) (before : List Line)
    (old : SeatState)
    (net : NetState) (state : State Row) (m : Seat Row) (shows : ShowsSeat header a old m) (holds : Holds now most space state.tree) where
  -- its reaction is this
  did_leaves : (new : SeatState) (after : NetState) (shown : List Line) (d : IsDone allows now input before old new net after shown)
      (r : Reaction Row)
      → DoesAs a header.lease new.agent.agent d.given r
      → Leaves header a now most (record { seat = new; space = space; net = after }) net shown state (did (under header) state a m before r)
  did_leaves new after shown d r does =
      let s = under header in
      let requests : List Line = map (λ (x : Sent). request_line s x.number x.cloud x.body) r.sent in
      record {
        m = record m { agent = r.agent; asked = m.asked ++ r.steps };
        lines =
            d.lines header ∙ ap (λ ls. before ++ ls) (lines_reacted s a header.lease r d.given does.gives)
            ∙ sym (append_assoc before (map (said_by a) r.says) requests);
        clock = refl;
        seats = refl;
        seat = record {
          by_header = d.it.header ∙ shows.by_header;
          no = d.it.no ∙ shows.no;
          agent = does.after;
          asked =
              d.asked ∙ ap (λ xs. old.asked ++ xs) (steps_reacted s a header.lease r d.given does.gives)
              ∙ ap (λ xs. xs ++ map (step_asked header.lease) r.steps) shows.asked
              ∙ sym (map-append (step_asked header.lease) m.asked r.steps);
          served = each-append CanBeServed m.asked r.steps shows.served does.asks;
          replied = subst (λ xs. Together (λ n. ShowsReply header.lease) 0 xs m.replied) (sym d.replied) shows.replied;
        };
        space = holds_on now now most (most + 1) space state.tree holds (le_refl _) (omega arith);
        sent = d.sent ∙ net_reacted s a header.lease r d.given does.gives net;
      }

  -- where its input is this one of the machine
  module _ (i : machine.Input Row) (clock : now ≡ state.clock)
      (means : (is : Agent Row) (given : List Output) → Reacts allows now old.agent.header old.agent.no old.agent.agent is given input
      → DoesRanked allows now old.agent.header old.agent.no old.agent.agent is given i) where
    abbrev pub Comes_here : (ranks : List ℕ) → Effect Row
    Comes_here ranks = comes (under header) rows state a (record { now = state.clock; ranks = ranks }) before i m

    here : (is : Agent Row) (given : List Output) → Reacts allows now old.agent.header old.agent.no old.agent.agent is given input
        → DoesRanked allows state.clock header a m.agent is given i
    here is given reacts =
        subst (λ h. DoesRanked allows state.clock h a m.agent is given i) shows.by_header
        (subst (λ n. DoesRanked allows state.clock old.agent.header n m.agent is given i) shows.no
        (subst (λ g. DoesRanked allows state.clock old.agent.header old.agent.no g is given i) shows.agent
        (subst (λ t. DoesRanked allows t old.agent.header old.agent.no old.agent.agent is given i) clock (means is given reacts))))

    pub comes_does : (new : SeatState) (after : NetState) (result : Result (List Line) StepFault)
        → Comes allows now old new net after input before result
        → Becomes allows Comes_here header a now most (record { seat = new; space = space; net = after }) net state result
    comes_does new after (Ok shown) d =
        let k = here new.agent.agent d.given d.it.reacts in
        (k.0, k.1, did_leaves new after shown d (reaction_by state.clock header a m.agent k.0 i) k.2)
    comes_does new after (Err faults.TooLarge) d =
        let k = here d.is.agent d.given d.it.reacts in
        let r : Reaction Row = reaction_by state.clock header a m.agent k.0 i in
        (k.0, k.1, subst (λ (n : NetState). carried_limit < n.carried) (net_reacted (under header) a header.lease r d.given k.2.gives net) d.more)
    comes_does new after (Err faults.Memory) d = tt
