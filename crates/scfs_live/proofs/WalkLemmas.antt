-- Lines that are run again.
use Rattle.std.proofs.Common.{◌≡◌, ◌<◌, ◌^◌, ℕ, ◌+◌, List, [], ◌∷◌, ◌++◌, refl, ap, ◌∙◌, sym, subst, true, length, map, Ok, arith}
use Rattle.scfs_base.specs.Limits.{carried_limit, events_limit}
use Rattle.scfs_net.specs.Queues.{NetState}
use Rattle.scfs_policy.specs.declared.rank.RankFacts.{RankFacts}
use Rattle.scfs_schedule.specs.declared.types.Event.{Event}
use Rattle.scfs_schedule.specs.declared.types.Header.{Header}
use Rattle.scfs_schedule.specs.declared.types.Line.{Line}
use Rattle.scfs_model.specs.Clouds.{all_asked, message_of, moved_by, net}
use Rattle.scfs_model.specs.History.{Entry, History}
use Rattle.scfs_model.specs.Layers.{Row, rows}
use Rattle.scfs_model.specs.Runs.{Answers, actual, Happens}
use Rattle.scfs_model.specs.States.{Effect, effect}
use Rattle.scfs_model.specs.UnitFormat.{under}
use Rattle.scfs_world.specs.Built.{is_built}
use Rattle.scfs_world.specs.Happening.{IsPlayed, Stands}
use Rattle.scfs_world.specs.State.{WorldState}
use Rattle.scfs_world.specs.Stepping.{IsTooLarge, IsWorld}
use Rattle.scfs_world.specs.Whole.{StatesAreWhole}
use Rattle.scfs_live.specs.declared.awaited.Awaited.{Awaited}
use Rattle.scfs_live.specs.declared.finding.Found.{Found}
use Rattle.scfs_live.specs.declared.finding.Found.TheVariants as founds
use Rattle.scfs_live.specs.declared.running.Running.{Running}
use Rattle.scfs_live.specs.Finding.{found}
use Rattle.scfs_live.specs.Keeping.{made_line, without_header_line, without_line}
use Rattle.scfs_live.specs.Reopening.{Follows, GoesOn, IsAt, Walk, Walks, with_event}
use Rattle.scfs_live.specs.TooLarge.{IsTooLargeNext}

-- a line more
pub walks_then : (header : Header) (a : Walk) (lines : List (List ℕ)) (b c : Walk) (line : List ℕ) → Walks header a lines b → Follows (found header b.awaited line) b c
    → Walks header a (lines ++ line ∷ []) c
walks_then header a [] b c line w f = (c, subst (λ (x : Walk). Follows (found header x.awaited line) x c) w f, refl)
walks_then header a (l ∷ ls) b c line w f = (w.0, w.1, walks_then header w.0 ls b c line w.2 f)

-- the event of a line was done
pub event_done : (allows : RankFacts → ℕ → Type 0) (header : Header) (place : Walk) (number : ℕ) (event : Event) (world : WorldState) (lines : List Line) (running : Running)
    (e : Entry) → is_built event ≡ true → length place.past < events_limit → e.event ≡ event → e.lines ≡ lines → Stands world header (e ∷ place.past)
    → IsPlayed allows header (e ∷ place.past) → IsWorld world
    → running ≡ record { world = world; awaited = record { header = []; lines = map (made_line world.events) lines } }
    → GoesOn allows header place number (founds.Does event) (Ok running)
event_done allows header place number event world lines running e built few same said stands plays is_world is =
    let count : world.events ≡ length place.past + 1 = stands.count ∙ omega arith in
    let new = with_event e place.past in
    let kept : ℕ → List Line → Awaited = λ n ls. record { header = []; lines = map (made_line n) ls } in
    let at : IsAt allows header new (record { world = world; awaited = kept world.events lines }) =
    record {
      stands = stands;
      plays = plays;
      awaited = ap (λ n. kept n lines) count ∙ ap (λ ls. kept (length place.past + 1) ls) (sym said);
      world = is_world;
      few = omega (arith, few);
    } in
    (new, (built, few, (e, same, refl)), subst (λ (r : Running). IsAt allows header new r) (sym is) at)

-- an event after a history, under a header and with clouds that are those of the history, would carry too many bytes
abbrev LargeAt : (allows : RankFacts → ℕ → Type 0) → Header → History → Event → (h : Header) → NetState → Type 0
LargeAt allows header past event h clouds =
    let state = actual (under header) past in
    let after : List ℕ → Effect Row = λ ranks. effect (under h) rows state event (message_of clouds event) (record { now = state.clock; ranks = ranks }) in
    (ranks : List ℕ) × Answers allows (after ranks).ranked ranks × (carried_limit < (all_asked (moved_by event clouds) (after ranks).sent).carried)

-- an event that is too large for a world is so for the history that it stands for
pub too_large_next : (allows : RankFacts → ℕ → Type 0) (header : Header) (past : History) (world : WorldState) (event : Event)
    → StatesAreWhole → Stands world header past → Happens (under header) past → length past < 2 ^ 24 → IsTooLarge allows world event
    → IsTooLargeNext allows header past event
too_large_next allows header past world event whole stands happens few large =
    subst (λ h. LargeAt allows header past event h (net (under header) past)) stands.by_header
    (subst (λ clouds. LargeAt allows header past event world.header clouds) stands.clouds
    (large (actual (under header) past) stands.shows (whole header past few happens)))

-- a line of the header was kept
pub header_line_kept : (allows : RankFacts → ℕ → Type 0) (header : Header) (place : Walk) (number : ℕ) (world : WorldState) (awaited left : Awaited) (is : Found)
    → is ≡ founds.KeepsHeader → left ≡ without_header_line awaited → IsAt allows header place (record { world = world; awaited = awaited })
    → GoesOn allows header place number is (Ok (record { world = world; awaited = left }))
header_line_kept allows header place number world awaited left is keeps without at =
    subst (λ (f : Found). GoesOn allows header place number f (Ok (record { world = world; awaited = left }))) (sym keeps) (
      record place { awaited = without_header_line place.awaited },
      refl,
      record { stands = at.stands; plays = at.plays; awaited = without ∙ ap without_header_line at.awaited; world = at.world; few = at.few },
    )

-- a line of the last event was kept
pub line_kept : (allows : RankFacts → ℕ → Type 0) (header : Header) (place : Walk) (number : ℕ) (world : WorldState) (awaited left : Awaited) (is : Found)
    → is ≡ founds.KeepsLine → left ≡ without_line awaited → IsAt allows header place (record { world = world; awaited = awaited })
    → GoesOn allows header place number is (Ok (record { world = world; awaited = left }))
line_kept allows header place number world awaited left is keeps without at =
    subst (λ (f : Found). GoesOn allows header place number f (Ok (record { world = world; awaited = left }))) (sym keeps) (
      record place { awaited = without_line place.awaited },
      refl,
      record { stands = at.stands; plays = at.plays; awaited = without ∙ ap without_line at.awaited; world = at.world; few = at.few },
    )

-- what a world finds of a line is what is found at its place
pub found_at : (allows : RankFacts → ℕ → Type 0) (header : Header) (place : Walk) (running : Running) (line : List ℕ) → IsAt allows header place running
    → found running.world.header running.awaited line ≡ found header place.awaited line
found_at allows header place running line at =
    ap (λ h. found h running.awaited line) at.stands.by_header ∙ ap (λ a. found header a line) at.awaited
