-- A run of a script underway, and how it ends.
use Rattle.std.proofs.Common.{◌≡◌, ◌≤◌, ◌<◌, ◌^◌, ◌+◌, ◌-◌, ◌⊎◌, inl, inr, ⊎_elim, ℕ, List, [], ◌∷◌, ◌++◌, Option, Some, None, Ok, refl, ap, ◌∙◌, sym, subst, append_assoc, append-nil, arith, length, length-append}
use Rattle.scfs_base.specs.Limits.{events_limit}
use Rattle.scfs_base.specs.Outside.{Puts, Rose}
use Rattle.scfs_policy.specs.declared.rank.RankFacts.{RankFacts}
use Rattle.scfs_schedule.specs.Grammar.{IsHeader}
use Rattle.scfs_schedule.specs.Holding.{is_unfinished}
use Rattle.scfs_schedule.specs.declared.types.Event.{Event}
use Rattle.scfs_schedule.specs.declared.types.Header.{Header}
use Rattle.scfs_schedule.specs.declared.types.Which.TheVariants as whichs
use Rattle.scfs_model.specs.Format.{Setup}
use Rattle.scfs_model.specs.History.{History}
use Rattle.scfs_model.specs.Runs.{Happens}
use Rattle.scfs_model.specs.UnitFormat.{under}
use Rattle.scfs_laws.specs.Held.{ReadsHeld}
use Rattle.scfs_laws.specs.Laws.{RunsWithoutClash}
use Rattle.scfs_laws.specs.Newest.{OpensNewest}
use Rattle.scfs_durable.specs.Safe.{AlwaysSafe}
use Rattle.scfs_world.specs.Happening.{IsPlayed, Stands}
use Rattle.scfs_world.specs.State.{WorldState}
use Rattle.scfs_live.specs.Asked.{AreAsked, Told}
use Rattle.scfs_live.specs.Driven.{IsDriven, IsDueIn, IsDueNext, IsSettled, IsWhole}
use Rattle.scfs_live.specs.Drives.{Drives, Ends}
use Rattle.scfs_live.specs.Driving.{Driver, begins_with}
use Rattle.scfs_live.specs.Keeping.{missing}
use Rattle.scfs_live.specs.Recording.{WroteAll}
use Rattle.scfs_live.specs.Reopened.{ReadsAll}
use Rattle.scfs_live.specs.Reopening.{Follows, Walk, Walks}
use Rattle.scfs_live.specs.Finding.{found}
use Rattle.scfs_live.specs.Stores.{AreLive}
use Rattle.scfs_live.specs.declared.driver.Next.{Next}
use Rattle.scfs_live.specs.declared.finding.Found.{Found}
use Rattle.scfs_live.specs.declared.finding.Found.TheVariants as founds
use Rattle.scfs_live.specs.declared.ending.LiveEnd.{LiveEnd}
use Rattle.scfs_live.specs.declared.ending.LiveEnd.TheVariants as lives
use Rattle.scfs_live.proofs.AllAsked.{are_asked_none, are_asked_then}
use Rattle.scfs_live.proofs.EdgeLemmas.{puts_nothing}
use Rattle.scfs_top.specs.declared.closing.Filled.TheVariants as filleds
use Rattle.scfs_top.specs.declared.intake.Intake.{Intake}
use Rattle.scfs_top.specs.declared.stopping.RunEnd.{RunEnd}
use Rattle.scfs_top.specs.declared.stopping.RunEnd.TheVariants as runs
use Rattle.scfs_top.specs.KeepingStep.{AllKeepStep}
use Rattle.scfs_top.specs.Outer.{SinkView, SourceView}
use Rattle.scfs_top.specs.Playing.{Playing}
use Rattle.scfs_top.specs.Plays.{Known}
use Rattle.scfs_top.specs.Running.{EndsDriving, KeepsToHeader, KeepsUp, ReadsScript, RunWrites, RunsOn}
use Rattle.scfs_top.specs.Scripting.{script_of}
use Rattle.scfs_top.specs.Underway.{EndsScript, GivesEvent, ReachesOn, ScriptSoFar}
use Rattle.scfs_top.proofs.ComingLemmas.{IsComing, coming_due, coming_first, coming_given, coming_more, coming_whole, some_done}
use Rattle.scfs_top.proofs.LiveLemmas.{end_writes_then, live_then, stops_then, wrote_then}
use Rattle.scfs_top.proofs.RunLemmas.{nameable}
use Rattle.scfs_top.proofs.ScriptLemmas.{leads_further}

-- 1 before the first event
abbrev pub one_if_none : {X : Type 0} → Option X → ℕ
one_if_none None = 1
one_if_none (Some x) = 0

-- what is known of a history that was played
pub known_of : (allows : RankFacts → ℕ → Type 0) (header : Header) (past : History) → RunsWithoutClash → ((s : Setup) (past : History) → Happens s past → ReadsHeld s past)
    → ((s : Setup) (past : History) → length past < 2 ^ 24 → Happens s past → OpensNewest past) → AlwaysSafe → IsHeader header → length past ≤ events_limit
    → IsPlayed allows header past → Known allows header past
known_of allows header past runs held newest safe is few plays = record {
  plays = plays;
  held = held (under header) past plays.happens;
  newest = newest (under header) past (omega (arith, few)) plays.happens;
  safe = safe (under header) past (nameable header past is (omega (arith, few))) plays.happens plays.served;
  run = λ apart. runs header past is plays.happens plays.served plays.events apart;
}

-- lines of an old journal lead to no more events than may stand
follow_few : (it : Found) (old new : Walk) → Follows it old new → length old.past ≤ events_limit → length new.past ≤ events_limit
follow_few founds.LeftOut old new same few = subst (λ (w : Walk). length w.past ≤ events_limit) (sym same) few
follow_few founds.KeepsHeader old new same few = subst (λ (w : Walk). length w.past ≤ events_limit) (sym same) few
follow_few founds.KeepsLine old new same few = subst (λ (w : Walk). length w.past ≤ events_limit) (sym same) few
follow_few (founds.Does event) old new (built, room, one) few =
    subst (λ (w : Walk). length w.past ≤ events_limit) (sym one.2) (omega (arith, room))
follow_few (founds.Differs kept made) old new none few = absurd none
follow_few (founds.Wrong kind) old new none few = absurd none

pub walk_few : (header : Header) (old : Walk) (lines : List (List ℕ)) (new : Walk) → Walks header old lines new → length old.past ≤ events_limit
    → length new.past ≤ events_limit
walk_few header old [] new same few = subst (λ (w : Walk). length w.past ≤ events_limit) (sym same) few
walk_few header old (line ∷ lines) new walks few =
    walk_few header walks.0 lines new walks.2 (follow_few (found header old.awaited line) old walks.0 walks.1 few)

-- the script so far, where the run ended before its next event
pub reads_open : (input now : SourceView) (intake : Intake) (header : Header) (done : List Event) (s : ScriptSoFar input now intake header done)
    → ReadsScript input now s.taken filleds.Open
reads_open input now intake header done s = record {
  takes = s.takes;
  few = omega (arith, s.room);
  full = λ is. cc;
  nothing_left = λ is. cc;
  ended = λ is. cc;
  failed = λ is. cc;
}

pub states : (input now : SourceView) (intake : Intake) (header : Header) (done : List Event) (s : ScriptSoFar input now intake header done)
    → (script_of s.taken).header ≡ Some header
states input now intake header done s =
    subst (λ l. (script_of l).header ≡ Some header) (append-nil s.taken) (leads_further input now intake header done s []).1

-- what was done so far of a run behind an old history, and what a driver demands then; journal, out and clouds went from there to here
pub record Behind (allows : RankFacts → ℕ → Type 0) (header : Header) (past : History) (world : WorldState) (driver : Driver) (intake : Intake)
    (input input' : SourceView) (j j' o o' : Option (List ℕ)) (clouds clouds' : List Told) : Type 0 where
  pub done : List Event
  pub new : History
  pub script : ScriptSoFar input input' intake header done
  pub coming : (later : List Event) → IsComing (under header) (done ++ later) new past driver later
  pub stands : Stands world header (new ++ past)
  pub plays : IsPlayed allows header (new ++ past)
  pub wrote : WroteAll j j' o o' new past
  pub asked : AreAsked (under header) new past clouds clouds'
  pub live : AreLive new
  pub pace : KeepsToHeader script.taken ⊎ KeepsUp (under header) new past script.taken

-- before the first drive
pub begins : (allows : RankFacts → ℕ → Type 0) (header : Header) (past : History) (world : WorldState) (intake : Intake) (input input' : SourceView) (j o : Option (List ℕ))
    (clouds : List Told) → Stands world header past → IsPlayed allows header past → (script : ScriptSoFar input input' intake header []) → KeepsToHeader script.taken
    → Behind allows header past world (begins_with (under header) None) intake input input' j j o o clouds clouds
begins allows header past world intake input input' j o clouds stands plays script pace = record {
  done = [];
  new = [];
  script = script;
  coming = λ later. coming_first (under header) later past;
  stands = stands;
  plays = plays;
  wrote = record { journal = puts_nothing j; out = puts_nothing o };
  asked = are_asked_none (under header) past clouds;
  live = tt;
  pace = inl pace;
}

-- with more new events the same bytes are early ones
keeps_up : (s : Setup) (more new past : History) (taken : List ℕ) → KeepsToHeader taken ⊎ KeepsUp s new past taken → KeepsToHeader taken ⊎ KeepsUp s (more ++ new) past taken
keeps_up s more new past taken pace =
    ⊎_elim (λ first. inl first)
    (λ p. inr (record {
      split = p.split;
      older = p.older;
      newer = more ++ p.newer;
      first = ap (λ (h : History). more ++ h) p.first ∙ sym (append_assoc more p.newer p.older);
      driven = p.driven;
      whole = p.whole;
    }))
    pace

-- what a run writes and asks, and why it ended, of all its new events
pub record Ending (allows : RankFacts → ℕ → Type 0) (header : Header) (past : History) (taken : List ℕ) (j j' o o' : Option (List ℕ)) (clouds clouds' : List Told)
    (end : RunEnd) : Type 0 where
  pub new : History
  pub stated : (script_of taken).header ≡ Some header
  pub few : length (new ++ past) ≤ events_limit
  pub plays : IsPlayed allows header (new ++ past)
  pub driven : IsDriven (under header) (script_of taken).events new past
  pub live : AreLive new
  pub ends : EndsDriving allows end header (script_of taken) new past clouds clouds'
  pub wrote : RunWrites end j j' o o' new past
  pub pace : KeepsToHeader taken ⊎ KeepsUp (under header) new past taken

module _ (allows : RankFacts → ℕ → Type 0) (header : Header) (past : History) (world : WorldState) (driver : Driver) (intake : Intake) (input now : SourceView)
    (j j1 o o1 : Option (List ℕ)) (clouds mid : List Told) (b : Behind allows header past world driver intake input now j j1 o o1 clouds mid) where
  -- a drive came to its end
  pub drove_on : (given : Option Event) (after : WorldState) (j2 o2 : Option (List ℕ)) (clouds' : List Told) → driver ≡ begins_with (under header) given
      → (d : Drives allows header given (b.new ++ past) after j1 j2 o1 o2 mid clouds')
      → (next : Behind allows header past after d.driver intake input now j j2 o o2 clouds clouds') × (next.new ≡ d.going.new ++ b.new)
      × IsSettled (under header) d.driver (next.new ++ past)
  drove_on given after j2 o2 clouds' begun d =
      let s = under header in
      let more = d.going.new in
      let same : more ++ (b.new ++ past) ≡ (more ++ b.new) ++ past = sym (append_assoc more b.new past) in (
        record {
          done = b.done;
          new = more ++ b.new;
          script = b.script;
          coming = λ later. coming_more s (b.done ++ later) later past more b.new (begins_with s given) d.driver
              (subst (λ (x : Driver). IsComing s (b.done ++ later) b.new past x later) begun (b.coming later)) d.going.drove.driven;
          stands = subst (λ (h : History). Stands after header h) same d.going.stands;
          plays = subst (λ (h : History). IsPlayed allows header h) same d.going.drove.plays;
          wrote = wrote_then j j1 j2 o o1 o2 b.new past b.wrote more d.going.wrote;
          asked = are_asked_then s b.new past clouds mid clouds' b.asked more d.going.asked;
          live = live_then more b.new d.going.drove.live b.live;
          pace = keeps_up s more b.new past b.script.taken b.pace;
        },
        refl,
        subst (λ (h : History). IsSettled s d.driver h) same d.settled,
      )

  -- what comes next in a drive comes next in the run
  due_then : (rest : List Event) (more : History) (after : Driver) → IsComing (under header) (b.done ++ rest) (more ++ b.new) past after rest
      → (script : Playing) → b.done ++ rest ≡ script.events → (next : Next) → IsDueIn (under header) after (more ++ (b.new ++ past)) next
      → IsDueNext (under header) script.events (more ++ b.new) past next
  due_then rest more after coming script same next due =
      subst (λ (l : List Event). IsDueNext (under header) l (more ++ b.new) past next) same
      (coming_due (under header) (b.done ++ rest) rest past (more ++ b.new) after next coming
      (subst (λ (h : History). IsDueIn (under header) after h next) (sym (append_assoc more b.new past)) due))

  -- a drive ended before
  pub drove_to : (given : Option Event) (why : LiveEnd) (j2 o2 : Option (List ℕ)) (clouds' : List Told) → driver ≡ begins_with (under header) given
      → Ends allows why header given (b.new ++ past) j1 j2 o1 o2 mid clouds' → Ending allows header past b.script.taken j j2 o o2 clouds clouds' (runs.Stopped why)
  drove_to given why j2 o2 clouds' begun d =
      let s = under header in
      let more = d.new in
      let same : more ++ (b.new ++ past) ≡ (more ++ b.new) ++ past = sym (append_assoc more b.new past) in
      let says = leads_further input now intake header b.done b.script [] in
      let events = subst (λ l. (script_of l).events ≡ b.done ++ says.0) (append-nil b.script.taken) says.2 in
      let coming : IsComing s (b.done ++ says.0) (more ++ b.new) past d.after says.0 =
      coming_more s (b.done ++ says.0) says.0 past more b.new (begins_with s given) d.after
      (subst (λ (x : Driver). IsComing s (b.done ++ says.0) b.new past x says.0) begun (b.coming says.0)) d.drove.driven in
      record {
        new = more ++ b.new;
        stated = states input now intake header b.done b.script;
        few = subst (λ (h : History). length h ≤ events_limit) same d.drove.few;
        plays = subst (λ (h : History). IsPlayed allows header h) same d.drove.plays;
        driven = subst (λ (l : List Event). IsDriven s l (more ++ b.new) past) (sym events) coming.driven;
        live = live_then more b.new d.drove.live b.live;
        ends = stops_then allows header more b.new past (IsDueIn s d.after (more ++ (b.new ++ past)))
            (IsDueNext s (script_of b.script.taken).events (more ++ b.new) past)
            (λ next due. due_then says.0 more d.after coming (script_of b.script.taken) (sym events) next due) clouds mid clouds' b.asked why d.stops;
        wrote = end_writes_then j j1 j2 o o1 o2 b.new past b.wrote why more d.wrote;
        pace = keeps_up s more b.new past b.script.taken b.pace;
      }

  -- all was settled before the script was read on
  module _ (settled : IsSettled (under header) driver (b.new ++ past)) where
    driven_done : IsDriven (under header) b.done b.new past
    driven_done = subst (λ (l : List Event). IsDriven (under header) l b.new past) (append-nil b.done) (b.coming []).driven

    whole_done : IsWhole (under header) b.done b.new past
    whole_done =
        subst (λ (l : List Event). IsWhole (under header) l b.new past) (append-nil b.done) (coming_whole (under header) (b.done ++ []) b.new past driver (b.coming []) settled)

    reach : (taken : List ℕ) → ReachesOn b.done b.script.taken taken → KeepsToHeader taken ⊎ KeepsUp (under header) b.new past taken
    reach taken on =
        ⊎_elim (λ same. subst (λ l. KeepsToHeader l ⊎ KeepsUp (under header) b.new past l) (sym same) b.pace)
        (λ r. inr (record {
          split = r.split;
          older = b.new;
          newer = [];
          first = refl;
          driven = subst (λ (l : List Event). IsDriven (under header) l b.new past) (sym r.events) driven_done;
          whole = subst (λ (l : List Event). IsWhole (under header) l b.new past) (sym r.events) whole_done;
        }))
        on

    -- a further event was read
    pub given_next : (now' : SourceView) (intake' : Intake) (count : ℕ) (event : Event)
        → GivesEvent b.script.taken input now' intake' header b.done count (Ok event)
        → Behind allows header past world (begins_with (under header) (Some event)) intake' input now' j j1 o o1 clouds mid
    given_next now' intake' count event g =
        let s = under header in
        record {
          done = b.done ++ event ∷ [];
          new = b.new;
          script = g.0;
          coming = λ later.
              let coming = coming_given s (b.done ++ event ∷ later) later past b.new driver event (b.coming (event ∷ later)) settled in
              subst (λ (l : List Event). IsComing s l b.new past (begins_with s (Some event)) later) (sym (append_assoc b.done (event ∷ []) later)) coming;
          stands = b.stands;
          plays = b.plays;
          wrote = b.wrote;
          asked = b.asked;
          live = b.live;
          pace = reach g.0.taken g.1;
        }

    -- or the script ended the run
    end_of_script : (count : ℕ) (end : RunEnd) (taken : List ℕ) → count ≡ length (b.new ++ past) → EndsScript end header b.done count (script_of taken)
        → ((script_of taken).header ≡ Some header) × IsDriven (under header) (script_of taken).events b.new past
        × EndsDriving allows end header (script_of taken) b.new past clouds mid × RunWrites end j j1 o o1 b.new past
    end_of_script count (runs.Finished total finish filled) taken counts ends =
        let events : (script_of taken).events ≡ b.done = ap (λ (p : Playing). p.events) ends.1 in (
          ap (λ (p : Playing). p.header) ends.1,
          subst (λ (l : List Event). IsDriven (under header) l b.new past) (sym events) driven_done,
          (
            sym (ap (λ (p : Playing). p.finish) ends.1),
            record {
              counts = ends.0 ∙ counts;
              whole = subst (λ (l : List Event). IsWhole (under header) l b.new past) (sym events) whole_done;
            },
            b.asked,
          ),
          b.wrote,
        )
    end_of_script count (runs.Stopped lives.Memory) taken counts ends = (
      ends.1,
      subst (λ (l : List Event). IsDriven (under header) l b.new past) (sym ends.2) (b.coming ends.0).driven,
      inl b.asked,
      b.wrote,
    )
    end_of_script count (runs.Stopped (lives.ReadFault which)) taken counts ends = absurd ends
    end_of_script count (runs.Stopped (lives.WriteFault which)) taken counts ends = absurd ends
    end_of_script count (runs.Stopped (lives.TooLarge which)) taken counts ends = absurd ends
    end_of_script count (runs.Stopped (lives.Bad bad)) taken counts ends = absurd ends
    end_of_script count (runs.Stopped (lives.Unbuilt line)) taken counts ends = absurd ends
    end_of_script count (runs.Stopped (lives.Differs line kept made)) taken counts ends = absurd ends

    pub ended : (count : ℕ) (end : RunEnd) (taken : List ℕ) → count ≡ length (b.new ++ past) → length (b.new ++ past) ≤ events_limit
        → ReachesOn b.done b.script.taken taken → EndsScript end header b.done count (script_of taken)
        → Ending allows header past taken j j1 o o1 clouds mid end
    ended count end taken counts few on ends =
        let all = end_of_script count end taken counts ends in
        record {
          new = b.new;
          stated = all.0;
          few = few;
          plays = b.plays;
          driven = all.1;
          live = b.live;
          ends = all.2;
          wrote = all.3;
          pace = reach taken on;
        }

-- the promise of a run that was driven
pub runs_on : (allows : RankFacts → ℕ → Type 0) (old old' : SourceView) (out out' journal journal' : SinkView) (clouds clouds' : List Told) (header : Header) (text : List ℕ)
    (place : Walk) (reopened : Option (List ℕ)) (taken : List ℕ) (end : RunEnd) → ReadsAll allows header old.left old'.left old.ends old'.ends text place
    → Puts journal.written reopened (missing (is_unfinished text) place.awaited)
    → (e : Ending allows header place.past taken reopened journal'.written out.written out'.written clouds clouds' end) → Known allows header (e.new ++ place.past)
    → AllKeepStep end (under header) e.new place.past clouds clouds'
    → (end ≡ runs.Stopped (lives.WriteFault whichs.Journal) → Rose journal.faults journal'.faults)
    → (end ≡ runs.Stopped (lives.WriteFault whichs.Out) → Rose out.faults out'.faults) → RunsOn allows taken old old' out out' journal journal' clouds clouds' end
runs_on allows old old' out out' journal journal' clouds clouds' header text place reopened taken end reads filled_in e known stores journal_failed out_failed = record {
  header = header;
  stated = e.stated;
  text = text;
  place = place;
  reads = reads;
  reopened = reopened;
  filled_in = filled_in;
  new = e.new;
  known = known;
  few = e.few;
  driven = e.driven;
  live = e.live;
  ends = e.ends;
  stores = stores;
  wrote = e.wrote;
  pace = e.pace;
  journal_failed = journal_failed;
  out_failed = out_failed;
}

-- counts of faults go on
pub rose_since : (a b c : ℕ) → a ≤ b → Rose b c → Rose a c
rose_since a b c h r = omega arith

not_none : {X : Type 0} (l : List X) → (l ≡ [] → ⊥) → 1 ≤ length l
not_none [] some = absurd (some refl)
not_none (x ∷ l) some = omega arith

-- a drive that was given an event does at least one more
pub counts_on : (allows : RankFacts → ℕ → Type 0) (header : Header) (given : Option Event) (past : History) (before : ℕ) (after : WorldState) (j j' o o' : Option (List ℕ))
    (clouds clouds' : List Told) → Drives allows header given past after j j' o o' clouds clouds' → before ≡ length past → before + 1 ≤ after.events + one_if_none given
counts_on allows header None past before after j j' o o' clouds clouds' d same =
    omega (arith, same, d.going.stands.count, length-append d.going.new past)
counts_on allows header (Some event) past before after j j' o o' clouds clouds' d same =
    let some = not_none d.going.new (some_done (under header) event d.going.new past d.driver d.going.drove.driven d.settled) in
    omega (arith, same, some, d.going.stands.count, length-append d.going.new past)

-- one end for one reason
pub same_why : (why other : LiveEnd) → runs.Stopped why ≡ runs.Stopped other → why ≡ other
same_why why other h = cc

-- the run goes on with fewer events to come
pub fewer : (before after none : ℕ) → before ≤ events_limit → after ≤ events_limit → before + 1 ≤ after + none → (events_limit - after) + 0 < (events_limit - before) + none
fewer before after none few few' more = omega (arith, few, few', more)
