-- A run, event by event.
use Rattle.std.proofs.Common.{◌≡◌, ◌≤◌, ◌^◌, ◌<◌, ℕ, ◌+◌, List, [], ◌∷◌, ◌++◌, false, refl, ap, sym, subst, Option, Some, None, length, arith, length-append, inl}
use Rattle.std.specs.Prelude.{IfSome}
use Rattle.std.proofs.lemmas.List.Elements.{All-nil}
use Rattle.scfs_base.specs.Limits.{input_limit}
use Rattle.scfs_base.specs.Outside.{Takes, Puts}
use Rattle.scfs_policy.specs.declared.rank.RankFacts.{RankFacts}
use Rattle.scfs_schedule.specs.declared.types.Event.{Event}
use Rattle.scfs_schedule.specs.declared.types.Header.{Header}
use Rattle.scfs_schedule.specs.Grammar.{IsHeader}
use Rattle.scfs_schedule.specs.Reading.{Read, Reading, gives, read}
use Rattle.scfs_model.specs.Format.{Setup}
use Rattle.scfs_model.specs.History.{Entry, History, transcript}
use Rattle.scfs_model.specs.Runs.{Happens}
use Rattle.scfs_model.specs.UnitFormat.{under}
use Rattle.scfs_laws.specs.Held.{ReadsHeld}
use Rattle.scfs_laws.specs.Laws.{NoClashBefore}
use Rattle.scfs_laws.specs.Newest.{OpensNewest}
use Rattle.scfs_live.specs.Edges.{GetsPart}
use Rattle.scfs_durable.specs.Safe.{AlwaysSafe, IsNameable, IsSafe}
use Rattle.scfs_top.specs.declared.closing.Filled.{Filled}
use Rattle.scfs_top.specs.declared.closing.Filled.TheVariants as filleds
use Rattle.scfs_top.specs.declared.closing.Finish.{Finish}
use Rattle.scfs_top.specs.declared.intake.Given.{Given}
use Rattle.scfs_top.specs.declared.intake.Intake.{Intake}
use Rattle.scfs_top.specs.declared.play.Played.{Played}
use Rattle.scfs_top.specs.declared.play.Played.TheVariants as playeds
use Rattle.scfs_top.specs.Edges.{Passes}
use Rattle.scfs_top.specs.Finishing.{EndsWith}
use Rattle.scfs_top.specs.Giving.{Draws, IsFresh, Tells, WaitedFor}
use Rattle.scfs_top.specs.Pace.{KeepsPace}
use Rattle.scfs_top.specs.Playing.{Playing, played}
use Rattle.scfs_top.specs.Plays.{EndsAtOnce, IsNext, Known, Plays, Ran, filled_of, finish_of, Counts, WroteBy}
use Rattle.scfs_top.proofs.EdgeLemmas.{passes_nothing, passes_on, takes_nothing, takes_then}
use Rattle.scfs_top.proofs.PaceLemmas.{Fronts, pace_next, pace_nothing, pace_out}

-- what reading tells, one part of it after another
pub tells_then : (a b c d e f : ℕ) (filled : Filled) → Tells a b d e filleds.Open → Tells b c e f filled → Tells a c d f filled
tells_then a b c d e f filled p q = record {
  later_ends = omega (arith, p.later_ends, q.later_ends);
  later_faults = omega (arith, p.later_faults, q.later_faults);
  ended = λ is. let r = q.ended is in omega (arith, p.later_ends, r);
  failed = λ is. let r = q.failed is in omega (arith, p.later_faults, r);
}

-- a header has few enough agents that all names of uploads have their widths
pub nameable : (header : Header) (past : History) → IsHeader header → length past < 2 ^ 24 → IsNameable (under header) past
nameable header past is few = let agents = is.agents.1 in record { agents = omega (arith, agents); events = few }

-- before its first event
pub nothing_known : (allows : RankFacts → ℕ → Type 0) (header : Header) → Known allows header []
nothing_known allows header = record {
  plays = record { happens = tt; served = tt; ranked = tt; events = tt; carried = omega arith };
  held = tt;
  newest = tt;
  safe = λ few. All-nil (IsSafe (under header) []);
  run = λ _. tt;
}

-- with one event more
pub known_next : (allows : RankFacts → ℕ → Type 0) (header : Header) (past : History) (event : Event) (entry : Entry) → NoClashBefore → ((s : Setup) (past : History) → Happens s past → ReadsHeld s past) →
    ((s : Setup) (past : History) → length past < 2 ^ 24 → Happens s past → OpensNewest past) → AlwaysSafe → IsHeader header → length (entry ∷ past) < 2 ^ 24 →
    Known allows header past → IsNext allows header past event entry → Known allows header (entry ∷ past)
known_next allows header past event entry before held newest safe is few known next = record {
  plays = next.plays;
  held = held (under header) (entry ∷ past) next.plays.happens;
  newest = newest (under header) (entry ∷ past) few next.plays.happens;
  safe = safe (under header) (entry ∷ past) (nameable header (entry ∷ past) is few) next.plays.happens next.plays.served;
  run = λ apart. (next.permits apart, known.run (before header entry past apart));
}

-- where a run is when the text was asked for what comes next: so much was taken, and of the history's lines some went out
pub record Asked (left now before after : Option (List ℕ)) (waiting : List ℕ) (past : History) (taken : List ℕ) : Type 0 where
  pub takes : Takes left now taken
  pub few : length taken ≤ input_limit + 1
  pub wrote : Passes before after [] waiting (transcript past)
  pub pace : KeepsPace past taken before after

pub asked_next : (front : Read → Read) (header : Option Header) (past : History) (left now next before b after : Option (List ℕ)) (w w' : List ℕ) (taken more : List ℕ)
    (intake new : Intake) (given : Given) → Fronts front taken intake.reader header past → length taken + intake.room ≡ input_limit + 1 → Takes left now taken
    → Passes before b [] w (transcript past) → KeepsPace past taken before b
    → Draws now next more intake new given → WaitedFor intake.reader more w' → Passes b after w w' []
    → Asked left next before after w' past (taken ++ more)
asked_next front header past left now next before b after w w' taken more intake new given fronts room takes wrote pace draws waited passes =
    let wrote' = passes_on before b after [] w w' (transcript past) wrote passes in
    record {
      takes = takes_then left now next taken more takes draws.takes;
      few = omega (arith, room, draws.few, length-append taken more);
      wrote = wrote';
      pace = pace_next front taken more intake.reader header past before b after w w' fronts pace passes wrote' waited;
    }

-- at the header
pub asked_first : (left now before after : Option (List ℕ)) (w w' more : List ℕ) (intake new : Intake) (given : Given) → IsFresh false intake → w ≡ []
    → Draws left now more intake new given → WaitedFor intake.reader more w' → Passes before after w w' [] → Asked left now before after w' [] more
asked_first left now before after w w' more intake new given fresh none draws waited passes =
    asked_next (λ r. r) None [] left left now before before after w w' [] more intake new given
    (record { says = λ later. ap (λ (r : Reading). gives r later) (sym fresh.unread); unfinished = λ line. refl })
    (omega (arith, fresh.room)) (takes_nothing left) (subst (λ l. Passes before before [] l []) (sym none) (passes_nothing before [])) (pace_nothing before)
    draws waited passes

-- with more that went out
pub asked_more : (left now before b after : Option (List ℕ)) (w w' taken : List ℕ) (past : History) → Asked left now before b w past taken → Passes b after w w' []
    → Asked left now before after w' past taken
asked_more left now before b after w w' taken past asked passes = record {
  takes = asked.takes;
  few = asked.few;
  wrote = passes_on before b after [] w w' (transcript past) asked.wrote passes;
  pace = pace_out past taken before b after passes.front asked.pace passes.puts;
}

-- a run that ended there
module _ (left now before after : Option (List ℕ)) (w taken : List ℕ) (past : History) where
  pub ran : (result : Played) → Asked left now before after w past taken
      → (filled_of result ≡ filleds.Full → length taken ≡ input_limit + 1) → (filled_of result ≡ filleds.End → IfSome now (λ rest. rest ≡ []))
      → Counts result past → WroteBy result past before after w → Ran left now before after w taken past result
  ran result asked full nothing_left counts wrote = record {
    takes = asked.takes;
    few = asked.few;
    full = full;
    nothing_left = nothing_left;
    counts = counts;
    wrote = wrote;
    pace = asked.pace;
  }

  -- writing failed
  pub ran_fault : (b : Option (List ℕ)) (x : List ℕ) → Takes left now taken → length taken ≤ input_limit + 1 → KeepsPace past taken before b → Puts b after x
      → GetsPart before after (transcript past) → Ran left now before after w taken past playeds.WriteFault
  ran_fault b x takes few pace puts part = record {
    takes = takes;
    few = few;
    full = λ is. cc;
    nothing_left = λ is. cc;
    counts = tt;
    wrote = part;
    pace = pace_out past taken before b after x pace puts;
  }

-- the header that a text states, or some header where it states none
header_or_first : Option Header → Header
header_or_first None = record { f = 1; lease = 1; stale = 0; agents = [] }
header_or_first (Some header) = header

states : (stated : Option Header) → IfSome stated (λ header. header ≡ header_or_first stated)
unfolding header_or_first
states None = tt
states (Some header) = refl

ends_first : (allows : RankFacts → ℕ → Type 0) (header : Header) (playing : Playing) (finish : Option Finish) → EndsAtOnce playing finish → EndsWith allows header [] playing finish
ends_first allows header playing None at_once = (playing.events, refl)
ends_first allows header playing (Some finish) at_once = inl (sym (ap (λ (r : Playing). r.events) at_once), sym (ap (λ (r : Playing). r.finish) at_once))

-- no event was played
pub plays_first : (allows : RankFacts → ℕ → Type 0) (left now before after : Option (List ℕ)) (w taken : List ℕ) (result : Played) → Ran left now before after w taken [] result
    → EndsAtOnce (played (read false taken)) (finish_of result) → Plays allows left now before after w result
plays_first allows left now before after w taken result ran at_once =
    let header = header_or_first (played (read false taken)).header in
    record {
      taken = taken;
      header = header;
      past = [];
      ran = ran;
      stated = states (played (read false taken)).header;
      ends = ends_first allows header (played (read false taken)) (finish_of result) at_once;
      known = nothing_known allows header;
    }
