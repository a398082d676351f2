-- What became of one event.
use Rattle.std.proofs.Common.{◌≡◌, ◌<◌, ◌^◌, ℕ, ◌+◌, List, ◌∷◌, ◌++◌, ap, ◌∙◌, sym, subst, Option, Result, Ok, Err, length, arith}
use Rattle.std.specs.Prelude.{IfOk}
use Rattle.std.specs.List.{flat_map}
use Rattle.scfs_base.specs.Limits.{carried_limit, events_limit}
use Rattle.scfs_policy.specs.declared.rank.RankFacts.{RankFacts}
use Rattle.scfs_schedule.specs.Text.{event_text, numbered}
use Rattle.scfs_schedule.specs.declared.types.Event.{Event}
use Rattle.scfs_schedule.specs.declared.types.Header.{Header}
use Rattle.scfs_schedule.specs.declared.types.Line.{Line}
use Rattle.scfs_schedule.specs.declared.types.Which.TheVariants as whiches
use Rattle.scfs_net.specs.Queues.{NetState}
use Rattle.scfs_model.specs.Clouds.{all_asked, message_of, moved_by, net}
use Rattle.scfs_model.specs.History.{Entry, History}
use Rattle.scfs_model.specs.Layers.{Row, rows}
use Rattle.scfs_model.specs.Runs.{Answers, actual, Happens}
use Rattle.scfs_model.specs.States.{Effect, effect}
use Rattle.scfs_model.specs.UnitFormat.{under}
use Rattle.scfs_world.specs.Happening.{IsPlayed, Stands}
use Rattle.scfs_world.specs.State.{WorldState}
use Rattle.scfs_world.specs.Stepping.{IsTooLarge}
use Rattle.scfs_world.specs.Whole.{StatesAreWhole}
use Rattle.scfs_live.specs.Journal.{entry_lines, entry_piece, kept_line}
use Rattle.scfs_live.specs.Recording.{Writes}
use Rattle.scfs_live.specs.TooLarge.{IsTooLargeNext}
use Rattle.scfs_live.specs.Turning.{Played, Turned, WroteNothing}
use Rattle.scfs_live.specs.declared.ending.LiveEnd.{LiveEnd}
use Rattle.scfs_live.specs.declared.ending.LiveEnd.TheVariants as ends
use Rattle.scfs_live.proofs.EdgeLemmas.{puts_nothing}

-- what a world did in an event: the entry whose lines it gave, and that it stands for the history with it
pub record Did (allows : RankFacts → ℕ → Type 0) (header : Header) (past : History) (event : Event) (world : WorldState) (lines : List Line) : Type 0 where
  pub entry : Entry
  pub same : entry.event ≡ event
  pub said : entry.lines ≡ lines
  pub stands : Stands world header (entry ∷ past)
  pub plays : IsPlayed allows header (entry ∷ past)
  pub few : length past < events_limit

pub nothing_written : (j o : Option (List ℕ)) → WroteNothing j j o o
nothing_written j o = record { journal = puts_nothing j; out = puts_nothing o }

module _ (allows : RankFacts → ℕ → Type 0) (header : Header) (past : History) (event : Event) (world : WorldState) (lines : List Line)
    (did : Did allows header past event world lines) where
  number_is : world.events ≡ length past + 1
  number_is = did.stands.count ∙ omega arith

  piece_is : event_text event ++ 10 ∷ flat_map (kept_line world.events) lines ≡ entry_piece past did.entry
  piece_is =
      ap (λ (x : Event). event_text x ++ 10 ∷ flat_map (kept_line world.events) lines) (sym did.same)
      ∙ ap (λ n. event_text did.entry.event ++ 10 ∷ flat_map (kept_line n) lines) number_is
      ∙ ap (λ (ls : List Line). event_text did.entry.event ++ 10 ∷ flat_map (kept_line (length past + 1)) ls) (sym did.said)

  shown_is : flat_map (numbered world.events) lines ≡ entry_lines past did.entry
  shown_is =
      ap (λ n. flat_map (numbered n) lines) number_is
      ∙ ap (λ (ls : List Line). flat_map (numbered (length past + 1)) ls) (sym did.said)

  played_entry : Played allows header past (λ given. given ≡ event) did.entry
  played_entry = record { it = did.same; few = did.few; plays = did.plays }

  by_result : (j j' o o' : Option (List ℕ)) (result : Result WorldState LiveEnd)
      → Writes j j' o o' (entry_piece past did.entry) (entry_lines past did.entry) result → IfOk result (λ next. next ≡ world)
      → Turned allows header past (λ given. given ≡ event) j j' o o' result
  by_result j j' o o' (Ok next) wrote is =
      (did.entry, played_entry, subst (λ (w : WorldState). Stands w header (did.entry ∷ past)) (sym is) did.stands, wrote.0, wrote.1)
  by_result j j' o o' (Err (ends.WriteFault whiches.Journal)) wrote is = (did.entry, played_entry, wrote.0, wrote.1)
  by_result j j' o o' (Err (ends.WriteFault whiches.Out)) wrote is = (did.entry, played_entry, wrote.0, wrote.1)
  by_result j j' o o' (Err ends.Memory) wrote is = record { journal = wrote.0; out = wrote.1 }
  by_result j j' o o' (Err end) wrote is = absurd wrote

  pub turned_by : (j j' o o' : Option (List ℕ)) (result : Result WorldState LiveEnd)
      → Writes j j' o o' (event_text event ++ 10 ∷ flat_map (kept_line world.events) lines) (flat_map (numbered world.events) lines) result
      → IfOk result (λ next. next ≡ world) → Turned allows header past (λ given. given ≡ event) j j' o o' result
  turned_by j j' o o' result wrote is =
      by_result j j' o o' result
      (subst (λ t. Writes j j' o o' t (entry_lines past did.entry) result) piece_is
      (subst (λ t. Writes j j' o o' (event_text event ++ 10 ∷ flat_map (kept_line world.events) lines) t result) shown_is wrote)) is

-- an event after a history, under a header and with clouds that are those of the history, would carry too many bytes
abbrev LargeAt : (allows : RankFacts → ℕ → Type 0) → Header → History → Event → (h : Header) → NetState → Type 0
LargeAt allows header past event h clouds =
    let state = actual (under header) past in
    let after : List ℕ → Effect Row = λ ranks. effect (under h) rows state event (message_of clouds event) (record { now = state.clock; ranks = ranks }) in
    (ranks : List ℕ) × Answers allows (after ranks).ranked ranks × (carried_limit < (all_asked (moved_by event clouds) (after ranks).sent).carried)

-- an event that is too large for a world is so for the history that it stands for
pub too_large_next : (allows : RankFacts → ℕ → Type 0) (header : Header) (past : History) (world : WorldState) (event : Event)
    → StatesAreWhole → Stands world header past → Happens (under header) past → length past < 2 ^ 24 → IsTooLarge allows world event
    → IsTooLargeNext allows header past event
too_large_next allows header past world event whole stands happens few large =
    subst (λ h. LargeAt allows header past event h (net (under header) past)) stands.by_header
    (subst (λ clouds. LargeAt allows header past event world.header clouds) stands.clouds
    (large (actual (under header) past) stands.shows (whole header past few happens)))
