use Rattle.std.proofs.Common.{◌≡◌, ◌<◌, ◌^◌, ℕ, ◌+◌, List, [], ◌∷◌, ◌++◌, refl, ap, ◌∙◌, sym, subst, Option, None, length, arith}
use Rattle.std.specs.List.{flat_map}
use Rattle.scfs_policy.specs.declared.rank.RankFacts.{RankFacts}
use Rattle.scfs_schedule.specs.declared.types.Event.{Event}
use Rattle.scfs_schedule.specs.declared.types.Header.{Header}
use Rattle.scfs_schedule.specs.declared.types.Line.{Line}
use Rattle.scfs_schedule.specs.Text.{numbered}
use Rattle.scfs_model.specs.History.{Entry, History}
use Rattle.scfs_base.specs.Limits.{carried_limit}
use Rattle.scfs_net.specs.Queues.{NetState}
use Rattle.scfs_model.specs.Clouds.{all_asked, message_of, moved_by, net}
use Rattle.scfs_model.specs.Layers.{Row, rows}
use Rattle.scfs_model.specs.Runs.{Answers, actual, Happens}
use Rattle.scfs_model.specs.States.{Effect, effect}
use Rattle.scfs_model.specs.UnitFormat.{under}
use Rattle.scfs_world.specs.Happening.{Stands}
use Rattle.scfs_world.specs.Stepping.{IsTooLarge}
use Rattle.scfs_world.specs.Whole.{StatesAreWhole}
use Rattle.scfs_world.specs.State.{WorldState}
use Rattle.scfs_live.specs.Edges.{GetsPart}
use Rattle.scfs_live.specs.TooLarge.{IsTooLargeNext}
use Rattle.scfs_top.specs.declared.play.Turn.{Turn}
use Rattle.scfs_top.specs.declared.play.Turn.TheVariants as turns
use Rattle.scfs_top.specs.Edges.{Passes}
use Rattle.scfs_top.specs.Plays.{Turns, IsNext, entry_text, finish_of_turn}
use Rattle.scfs_top.proofs.EdgeLemmas.{passes_nothing}

-- what a world did in an event: the entry whose lines it gave, and that it stands for the history with it
pub record Did (allows : RankFacts → ℕ → Type 0) (header : Header) (past : History) (event : Event) (world : WorldState) (lines : List Line) : Type 0 where
  pub entry : Entry
  pub next : IsNext allows header past event entry
  pub said : entry.lines ≡ lines
  pub stands : Stands world header (entry ∷ past)

-- what became of its lines, by how the turn ended
pub record Pushed (world : WorldState) (lines : List Line) (before after : Option (List ℕ)) (waiting waiting' : List ℕ) (turn : Turn) : Type 0 where
  pub done : (next : WorldState) → turn ≡ turns.Done next → (next ≡ world) × Passes before after waiting waiting' (flat_map (numbered world.events) lines)
  pub goes_on : finish_of_turn turn ≡ None
  pub small : turn ≡ turns.TooLarge → ⊥
  pub part : turn ≡ turns.WriteFault → GetsPart before after (waiting ++ flat_map (numbered world.events) lines)
  pub nothing : turn ≡ turns.Memory → (after ≡ before) × (waiting' ≡ waiting)

same_text : (allows : RankFacts → ℕ → Type 0) (header : Header) (past : History) (event : Event) (world : WorldState) (lines : List Line) (did : Did allows header past event world lines) →
    flat_map (numbered world.events) lines ≡ entry_text past did.entry
same_text allows header past event world lines did =
    let number : world.events ≡ length past + 1 = did.stands.count ∙ omega arith in
    ap (λ n. flat_map (numbered n) lines) number ∙ ap (λ ls. flat_map (numbered (length past + 1)) ls) (sym did.said)

pub pushed_turn : (allows : RankFacts → ℕ → Type 0) (header : Header) (past : History) (event : Event) (world : WorldState) (lines : List Line) (before after : Option (List ℕ))
    (waiting waiting' : List ℕ) (turn : Turn) → Did allows header past event world lines → Pushed world lines before after waiting waiting' turn
    → Turns allows header past event before after waiting waiting' turn
pushed_turn allows header past event world lines before after waiting waiting' (turns.Done next) did pushed =
    let w = pushed.done next refl in
    let text = same_text allows header past event world lines did in
    (did.entry, did.next, subst (λ (x : WorldState). Stands x header (did.entry ∷ past)) (sym w.0) did.stands, subst (λ t. Passes before after waiting waiting' t) text w.1)
pushed_turn allows header past event world lines before after waiting waiting' (turns.Finished finish) did pushed = let e = pushed.goes_on in cc
pushed_turn allows header past event world lines before after waiting waiting' turns.TooLarge did pushed = absurd (pushed.small refl)
pushed_turn allows header past event world lines before after waiting waiting' turns.WriteFault did pushed =
    (did.entry, did.next, subst (λ t. GetsPart before after (waiting ++ t)) (same_text allows header past event world lines did) (pushed.part refl))
pushed_turn allows header past event world lines before after waiting waiting' turns.Memory did pushed =
    let same = pushed.nothing refl in
    subst (λ (o : Option (List ℕ)). Passes before o waiting waiting' []) (sym same.0)
    (subst (λ w. Passes before before waiting w []) (sym same.1) (passes_nothing before waiting))

-- an event after a history, under a header and with clouds that are those of the history, would carry too many bytes
abbrev LargeAt : (allows : RankFacts → ℕ → Type 0) → Header → History → Event → (h : Header) → NetState → Type 0
LargeAt allows header past event h clouds =
    let state = actual (under header) past in
    let after : List ℕ → Effect Row = λ ranks. effect (under h) rows state event (message_of clouds event) (record { now = state.clock; ranks = ranks }) in
    (ranks : List ℕ) × Answers allows (after ranks).ranked ranks × (carried_limit < (all_asked (moved_by event clouds) (after ranks).sent).carried)

-- an event that is too large for a world is so for the history that it stands for
pub too_large_next : (allows : RankFacts → ℕ → Type 0) (header : Header) (past : History) (world : WorldState) (event : Event)
    → StatesAreWhole → Stands world header past → Happens (under header) past → length past < 2 ^ 24 → IsTooLarge allows world event
    → IsTooLargeNext allows header past event
too_large_next allows header past world event whole stands happens few large =
    subst (λ h. LargeAt allows header past event h (net (under header) past)) stands.by_header
    (subst (λ clouds. LargeAt allows header past event world.header clouds) stands.clouds
    (large (actual (under header) past) stands.shows (whole header past few happens)))
