-- A history that was played, with one event more.
use Rattle.std.proofs.Common.{◌≡◌, ℕ, ◌+◌, ◌<◌, ◌≤◌, List, ◌∷◌, refl, ap, ◌∙◌, subst, arith}
use Rattle.scfs_base.specs.Limits.{carried_limit}
use Rattle.scfs_policy.specs.declared.rank.RankFacts.{RankFacts}
use Rattle.scfs_schedule.specs.Grammar.{IsHeader, IsEvent}
use Rattle.scfs_schedule.specs.declared.types.Event.{Event}
use Rattle.scfs_schedule.specs.declared.types.Header.{Header}
use Rattle.scfs_schedule.specs.declared.types.Line.{Line}
use Rattle.scfs_net.specs.Queues.{NetState}
use Rattle.scfs_model.specs.Clouds.{all_asked, message_of, moved_by, net}
use Rattle.scfs_model.specs.History.{Entry}
use Rattle.scfs_laws.specs.Laws.{BringsBytes}
use Rattle.scfs_model.specs.Layers.{Row, rows}
use Rattle.scfs_model.specs.Runs.{actual, effect_after, Answers}
use Rattle.scfs_model.specs.States.{State, Effect, effect}
use Rattle.scfs_model.specs.UnitFormat.{under}
use Rattle.scfs_laws.proofs.SoundLaw.{runs_without_clash}
use Rattle.scfs_world.specs.Happening.{IsPlayed, PlaysOn}
use Rattle.scfs_world.specs.Shows.{Shows}
use Rattle.scfs_world.specs.State.{WorldState}
use Rattle.scfs_world.specs.Stepping.{DoesIt, Steps, IsWorld, effect_on}
use Rattle.scfs_world.proofs.WholeLaw.{states_are_whole}

pub plays_on : (allows : RankFacts → ℕ → Type 0) (old new : WorldState) (event : Event) (given : List Line) → IsWorld old → IsEvent old.header event
    → BringsBytes event → old.events < 1000000 → new.header ≡ old.header → new.events ≡ old.events + 1 → new.net.carried ≤ carried_limit
    → Steps allows old new event given → PlaysOn allows old new event given
plays_on allows old new event given world is brings room same_header count carried steps header past stands plays =
    let s = under header in
    let state : State Row = actual s past in
    let k = steps state stands.shows (states_are_whole header past (omega (arith, stands.count, room)) plays.happens) in
    let does : DoesIt old new event given (effect_on old state event k.0) = k.2 in
    let e : Entry = record { event = event; lines = given; ranks = k.0; message = message_of (net s past) event } in
    let x : Effect Row = effect_after s rows past e in
    let same : effect_on old state event k.0 ≡ x =
    ap (λ h. effect (under h) rows state event (message_of old.net event) (record { now = state.clock; ranks = k.0 })) stands.by_header
    ∙ ap (λ n. effect s rows state event (message_of n event) (record { now = state.clock; ranks = k.0 })) stands.clouds in
    let clouds : new.net ≡ net s (e ∷ past) =
    does.clouds ∙ ap (λ n. all_asked (moved_by event n) (effect_on old state event k.0).sent) stands.clouds
    ∙ ap (λ (y : Effect Row). all_asked (moved_by event (net s past)) y.sent) same in
    let played : IsPlayed allows header (e ∷ past) = record {
      happens = (does.lines ∙ ap (λ (y : Effect Row). y.lines) same, plays.happens);
      served = (refl, plays.served);
      ranked = (subst (λ (y : Effect Row). Answers allows y.ranked k.0) same k.1, plays.ranked);
      events = (subst (λ (h : Header). IsEvent h event) stands.by_header is, brings, plays.events);
      carried = subst (λ (n : NetState). n.carried ≤ carried_limit) clouds carried;
    } in (
      e,
      refl,
      refl,
      record {
        by_header = same_header ∙ stands.by_header;
        count = omega (arith, count, stands.count);
        shows = subst (λ (y : Effect Row). Shows new y.state) same does.shows;
        clouds = clouds;
      },
      played,
      λ apart. (runs_without_clash header (e ∷ past)
          (subst IsHeader stands.by_header world.header) played.happens played.served played.events apart).0,
    )
