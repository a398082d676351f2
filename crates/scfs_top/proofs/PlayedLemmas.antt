-- What is played of a text whose first events are those of a history.
use Rattle.std.proofs.Common.{◌≡◌, ℕ, ◌+◌, suc, List, [], ◌∷◌, refl, ap, ◌∙◌, sym, subst, Option, Some, None, length, arith, Bool, true, if◌then◌else◌, inl, inr}
use Rattle.std.specs.Prelude.{IfSome}
use Rattle.scfs_policy.specs.declared.rank.RankFacts.{RankFacts}
use Rattle.scfs_schedule.specs.declared.types.Event.{Event}
use Rattle.scfs_schedule.specs.declared.types.Header.{Header}
use Rattle.scfs_schedule.specs.declared.types.Ending.{Ending}
use Rattle.scfs_schedule.specs.Reading.{Read, stopped, with_event, with_header}
use Rattle.scfs_world.specs.Built.{is_built_header}
use Rattle.scfs_model.specs.History.{History, events_then}
use Rattle.scfs_live.specs.TooLarge.{IsTooLargeNext}
use Rattle.scfs_top.specs.declared.closing.Finish.{Finish}
use Rattle.scfs_top.specs.declared.closing.Finish.TheVariants as finishes
use Rattle.scfs_top.specs.Finishing.{EndsWith}
use Rattle.scfs_top.specs.Playing.{Playing, before_event, events_played, finish_at, finished, header_lines, played, under_header, unless_finished}
use Rattle.scfs_top.specs.Plays.{with_past}

-- what is played, with a history's events in front
abbrev pub after_past : History → Playing → Playing
after_past past playing = record playing { events = events_then past playing.events }

-- no event of a history ends what is played, the oldest standing in the line of this number
abbrev pub AllPlayed : ℕ → History → Type 0
AllPlayed line [] = Unit {0}
AllPlayed line (entry ∷ past) = (finish_at (line + length past) (length past) entry.event ≡ None) × AllPlayed line past

-- such a history's events are played, and then what is played of those behind them
played_past : (line : ℕ) (past : History) (events : List Event) (ending : Ending) → AllPlayed line past →
    events_played line 0 (events_then past events) ending ≡ after_past past (events_played (line + length past) (length past) events ending)
played_past line [] events ending all = let same : line ≡ line + 0 = omega arith in ap (λ n. events_played n 0 events ending) same
played_past line (entry ∷ past) events ending all =
    let lines : line + length past + 1 ≡ line + suc (length past) = omega arith in
    let counts : length past + 1 ≡ suc (length past) = omega arith in
    let rest = events_played (line + length past + 1) (length past + 1) events ending in
    played_past line past (entry.event ∷ events) ending all.1
    ∙ ap (λ (f : Option Finish). after_past past (unless_finished f entry.event rest)) all.0
    ∙ ap (λ n. after_past (entry ∷ past) (events_played n (length past + 1) events ending)) lines
    ∙ ap (λ n. after_past (entry ∷ past) (events_played (line + suc (length past)) n events ending)) counts

-- a text says a header, the events of a history that are played, and what a rest says
pub record Says (text : Read) (header : Header) (past : History) (rest : Read) : Type 0 where
  pub built : is_built_header header ≡ true
  pub all : AllPlayed (header_lines header + 1) past
  pub is : text ≡ with_header header (with_past past rest)

-- of it these events behind the history are played, with this finish
abbrev pub Leads : Read → Header → History → Playing → Type 0
Leads text header past playing = played text ≡ under_header header (after_past past playing)

pub leads : (text : Read) (header : Header) (past : History) (rest : Read) → Says text header past rest
    → Leads text header past (events_played (header_lines header + 1 + length past) (length past) rest.events rest.ending)
leads text header past rest says =
    let line = header_lines header + 1 in
    let events = events_then past rest.events in
    ap played says.is
    ∙ ap (λ (b : Bool). if b then under_header header (events_played line 0 events rest.ending) else finished (finishes.Unbuilt (header_lines header))) says.built
    ∙ ap (under_header header) (played_past line past rest.events rest.ending says.all)

pub leads_to_end : (text : Read) (header : Header) (past : History) (ending : Ending) → Says text header past (stopped ending)
    → Leads text header past (finished (finishes.Text ending))
leads_to_end text header past ending says = leads text header past (stopped ending) says

-- an event behind the history ends what is played, or is played
pub leads_to_event : (text : Read) (header : Header) (past : History) (event : Event) (rest : Read) (finish : Option Finish)
    → Says text header past (with_event event rest) → finish_at (header_lines header + 1 + length past) (length past) event ≡ finish
    → Leads text header past (unless_finished finish event (events_played (header_lines header + 1 + length past + 1) (length past + 1) rest.events rest.ending))
leads_to_event text header past event rest finish says at =
    leads text header past (with_event event rest) says
    ∙ ap (λ (f : Option Finish). under_header header (after_past past (unless_finished f event
    (events_played (header_lines header + 1 + length past + 1) (length past + 1) rest.events rest.ending)))) at

pub states_header : (text : Read) (header : Header) (past : History) (playing : Playing) → Leads text header past playing
    → IfSome (played text).header (λ stated. stated ≡ header)
states_header text header past playing is = subst (λ (r : Playing). IfSome r.header (λ stated. stated ≡ header)) (sym is) refl

module _ (allows : RankFacts → ℕ → Type 0) (text : Read) (header : Header) (past : History) where
  pub ends_finished : (finish : Finish) → Leads text header past (finished finish) → EndsWith allows header past (played text) (Some finish)
  ends_finished finish is = inl (sym (ap (λ (r : Playing). r.events) is), sym (ap (λ (r : Playing). r.finish) is))

  pub ends_large : (event : Event) (rest : Playing) → Leads text header past (before_event event rest) → IsTooLargeNext allows header past event
      → EndsWith allows header past (played text) (Some finishes.Objects)
  ends_large event rest is large = inr (refl, (event, rest.events, sym (ap (λ (r : Playing). r.events) is), large))

  pub ends_part : (rest : Playing) → Leads text header past rest → EndsWith allows header past (played text) None
  ends_part rest is = (rest.events, sym (ap (λ (r : Playing). r.events) is))
