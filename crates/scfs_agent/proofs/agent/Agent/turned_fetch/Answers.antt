use Rattle.std.proofs.Common.{◌≡◌, ◌<◌, ◌+◌, ◌*◌, ℕ, List, length, sym, ap, ◌∙◌, subst, arith}
use Rattle.scfs_quorum_read.specs.Tracking.{Tracker}
use Rattle.scfs_agent.specs.Keeping.{IsFetchAsking}
use Rattle.scfs_agent.proofs.TurnLemmas.{turn_asking, turn_again}
use Rattle.std.specs.Prelude.{filter, not}
use Rattle.std.proofs.lemmas.List.Elements.{All-same, All-filter}
use Rattle.scfs_quorum_read.specs.Reading.{is_among}
use Rattle.scfs_model.specs.Layers.{Row, rows}
use Rattle.scfs_model.specs.Agents.{Reaction}
use Rattle.scfs_model.specs.Opens.{asks_gets}
use Rattle.scfs_agent.specs.State.{AgentState, setup}
use Rattle.scfs_agent.specs.Views.{opening_of}
use Rattle.scfs_agent.specs.Outputs.{outputs_of}
use Rattle.scfs_agent.proofs.HandingLemmas.{gives_by}
use Rattle.scfs_agent.proofs.CloudLists.{filter_short}
use Rattle.scfs_agent.proofs.agent.Agent.turned_fetch.Goals as goal

pub ask_gets-requires-clause-few : goal.ask_gets-requires-clause-few
ask_gets-requires-clause-few c =
    let test : ℕ → _ = λ (d : ℕ). not (is_among d c.args.fetch.tracker.pieces) in
    let kept : c.as_slice.result.now ≡ filter test c.args.fetch.tracker.reading.order =
    c.as_slice.ensures ∙ c.in_ok-wanted.ensures ∙ ap (filter test) c.order.ensures in
    let f : c.self.inside.header.f ≡ c.args.self.now.header.f = ap (λ (a : AgentState). a.header.f) c.self.view_is in
    omega (
      arith,
      ap length kept,
      filter_short test c.args.fetch.tracker.reading.order,
      c.requires.fetch.clouds.as_many,
      f,
      c.self.invariant.is_header.f.1,
    )

pub ask_gets-requires-clause-clouds : goal.ask_gets-requires-clause-clouds
ask_gets-requires-clause-clouds c =
    let test : ℕ → _ = λ (d : ℕ). not (is_among d c.args.fetch.tracker.pieces) in
    let kept : c.as_slice.result.now ≡ filter test c.args.fetch.tracker.reading.order =
    c.as_slice.ensures ∙ c.in_ok-wanted.ensures ∙ ap (filter test) c.order.ensures in
    All-same (λ (d : ℕ). d < 3 * c.args.self.now.header.f + 1) c.as_slice.result.now _ kept
    (All-filter test (λ (d : ℕ). d < 3 * c.args.self.now.header.f + 1) c.args.fetch.tracker.reading.order c.requires.fetch.clouds.below)

pub ask_gets-requires-clause-fetch : goal.ask_gets-requires-clause-fetch
ask_gets-requires-clause-fetch c =
    let test : ℕ → _ = λ (d : ℕ). not (is_among d c.args.fetch.tracker.pieces) in
    let kept : c.as_slice.result.now ≡ filter test c.args.fetch.tracker.reading.order =
    c.as_slice.ensures ∙ c.in_ok-wanted.ensures ∙ ap (filter test) c.order.ensures in
    subst (λ (clouds : List ℕ). IsFetchAsking c.args.self.now.header.f (record c.args.fetch { tracker = c.turn.new.self }) clouds) (sym kept)
    (subst (λ (t : Tracker). IsFetchAsking c.args.self.now.header.f (record c.args.fetch {
      tracker =
          t;
    }) (filter test c.args.fetch.tracker.reading.order))
    (sym c.turn.ensures.after) (turn_asking c.args.self.now.header.f c.args.fetch c.requires.fetch (sym c.turn.ensures.steps ∙ c.in-Again.is)))

pub returns-in-Again-clause-gives : goal.returns-in-Again-clause-gives
returns-in-Again-clause-gives c =
    let old = c.args.self.now in
    let fetch = c.args.fetch in
    let test : ℕ → _ = λ (d : ℕ). not (is_among d fetch.tracker.pieces) in
    let kept : c.as_slice.result.now ≡ filter test fetch.tracker.reading.order =
    c.as_slice.ensures ∙ c.in_ok-wanted.ensures ∙ ap (filter test) c.order.ensures in
    let asks : Tracker → List ℕ → Reaction Row =
    λ t clouds. asks_gets (setup old) rows old.no old.agent (opening_of (record fetch { tracker = t })) clouds in
    gives_by c.ask_gets.result _ _
    (ap (λ (clouds : List ℕ). outputs_of old (asks c.turn.new.self clouds)) kept
    ∙ ap (λ (t : Tracker). outputs_of old (asks t (filter test fetch.tracker.reading.order))) c.turn.ensures.after
    ∙ ap (λ (r : Reaction Row). outputs_of old r) (sym (turn_again old old.agent fetch c.requires.fetch (sym c.turn.ensures.steps ∙ c.in-Again.is))))
    c.ask_gets.ensures.gives
