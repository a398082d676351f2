-- The promise of a run of a script over real clouds.
use Rattle.std.specs.Prelude.{◌≡◌, ◌≤◌, ◌⊎◌, ℕ, ◌+◌, List, [], ◌++◌, length, Bool, true, false, Option, Some, None, IfSome}
use Rattle.scfs_base.specs.Limits.{events_limit, input_limit}
use Rattle.scfs_base.specs.Outside.{Takes, Puts, Rose}
use Rattle.scfs_policy.specs.declared.rank.RankFacts.{RankFacts}
use Rattle.scfs_schedule.specs.Holding.{is_unfinished}
use Rattle.scfs_schedule.specs.declared.types.Header.{Header}
use Rattle.scfs_schedule.specs.declared.types.Which.TheVariants as whichs
use Rattle.scfs_model.specs.Format.{Setup}
use Rattle.scfs_model.specs.History.{History}
use Rattle.scfs_model.specs.UnitFormat.{under}
use Rattle.scfs_live.specs.Asked.{AreAsked, Told}
use Rattle.scfs_live.specs.Driven.{IsDriven, IsDueNext, IsWhole}
use Rattle.scfs_live.specs.Keeping.{missing}
use Rattle.scfs_live.specs.Recording.{WroteAll}
use Rattle.scfs_live.specs.Reopened.{EndsReopening, ReadsAll}
use Rattle.scfs_live.specs.Reopening.{RunsAgain, Walk}
use Rattle.scfs_live.specs.Stopping.{StopWrites, Stops}
use Rattle.scfs_live.specs.Stores.{AreLive}
use Rattle.scfs_live.specs.declared.ending.LiveEnd.{LiveEnd}
use Rattle.scfs_live.specs.declared.ending.LiveEnd.TheVariants as lives
use Rattle.scfs_top.specs.declared.closing.Filled.{Filled}
use Rattle.scfs_top.specs.declared.closing.Filled.TheVariants as filleds
use Rattle.scfs_top.specs.declared.closing.LastLine.{LastLine}
use Rattle.scfs_top.specs.declared.closing.LastLine.TheVariants as lasts
use Rattle.scfs_top.specs.declared.closing.LineFault.TheVariants as faults
use Rattle.scfs_top.specs.declared.closing.Status.{Status}
use Rattle.scfs_top.specs.declared.closing.Status.TheVariants as statuses
use Rattle.scfs_top.specs.declared.stopping.RunEnd.{RunEnd}
use Rattle.scfs_top.specs.declared.stopping.RunEnd.TheVariants as runs
use Rattle.scfs_top.specs.Closing.{closing_of}
use Rattle.scfs_top.specs.Headline.{Closes}
use Rattle.scfs_top.specs.KeepingStep.{AllKeepStep}
use Rattle.scfs_top.specs.Outer.{SinkView, SourceView}
use Rattle.scfs_top.specs.Playing.{Playing, finished}
use Rattle.scfs_top.specs.Plays.{Known}
use Rattle.scfs_top.specs.Scripting.{IsSplit, script_of}

-- how reading the script ended; it is open where the run ended first
abbrev pub filled_of_run : RunEnd → Filled
filled_of_run (runs.Finished count finish filled) = filled
filled_of_run (runs.Stopped why) = filleds.Open

-- The script: these bytes of it were taken, where it tells them. Reading gave the end only where the count of ends rose, and failed only
-- where the count of faults did.
pub record ReadsScript (input input' : SourceView) (taken : List ℕ) (filled : Filled) : Type 0 where
  pub takes : Takes input.left input'.left taken
  pub few : length taken ≤ input_limit + 1
  pub full : filled ≡ filleds.Full → length taken ≡ input_limit + 1
  pub nothing_left : filled ≡ filleds.End → IfSome input'.left (λ rest. rest ≡ [])
  pub ended : filled ≡ filleds.End → Rose input.ends input'.ends
  pub failed : filled ≡ filleds.Fault → Rose input.faults input'.faults

-- the bytes taken are at most one piece more than early ones in which no header stands
pub record KeepsToHeader (taken : List ℕ) : Type 0 where
  pub split : IsSplit taken
  pub none : (script_of split.early).header ≡ None

-- They are at most one piece more than early ones whose events were driven to their end before the newest of the new events: so at most a
-- piece behind the line that is being driven, and behind the line at which the run stopped.
pub record KeepsUp (s : Setup) (new past : History) (taken : List ℕ) : Type 0 where
  pub split : IsSplit taken
  pub older : History
  pub newer : History
  pub first : new ≡ newer ++ older
  pub driven : IsDriven s (script_of split.early).events older past
  pub whole : IsWhole s (script_of split.early).events older past

-- the script's header ended the run; or memory was wanting for it
abbrev pub EndsInHeader : RunEnd → (script : Playing) → Type 0
EndsInHeader (runs.Finished count finish filled) script = (count ≡ 0) × (script ≡ finished finish)
EndsInHeader (runs.Stopped lives.Memory) script = Unit {0}
EndsInHeader (runs.Stopped other) script = ⊥

-- First the script's header is read. Where it ends the run, nothing else was touched.
pub record StopsAtHeader (taken : List ℕ) (old old' : SourceView) (out out' journal journal' : SinkView) (clouds clouds' : List Told) (end : RunEnd) : Type 0 where
  pub ends : EndsInHeader end (script_of taken)
  pub pace : KeepsToHeader taken
  pub old_stays : old' ≡ old
  pub out_stays : out' ≡ out
  pub journal_stays : journal' ≡ journal
  pub clouds_stay : clouds' ≡ clouds

-- Then the old journal is read to its end and run again. Where that ends the run, no cloud was asked and nothing went to out. This is
-- known of each history that lines of the old journal led to.
pub record StopsReopening (allows : RankFacts → ℕ → Type 0) (taken : List ℕ) (old old' : SourceView) (out out' journal journal' : SinkView) (clouds clouds' : List Told)
    (end : RunEnd) : Type 0 where
  pub header : Header
  pub why : LiveEnd
  pub is : end ≡ runs.Stopped why
  pub stated : (script_of taken).header ≡ Some header
  pub pace : KeepsToHeader taken
  pub reopening : EndsReopening allows header old.left old'.left old.ends old'.ends journal.written journal'.written why
  pub known : (lines : List (List ℕ)) (place : Walk) → RunsAgain allows header lines place → Known allows header place.past
  pub read_failed : why ≡ lives.ReadFault whichs.Journal → Rose old.faults old'.faults
  pub write_failed : why ≡ lives.WriteFault whichs.Journal → Rose journal.faults journal'.faults
  pub out_stays : out' ≡ out
  pub clouds_stay : clouds' ≡ clouds

-- all of a script was driven to its end, with so many events in the whole run
pub record RanWhole (header : Header) (script : Playing) (new past : History) (count : ℕ) : Type 0 where
  pub counts : count ≡ length (new ++ past)
  pub whole : IsWhole (under header) script.events new past

-- How driving ended, with what the clouds were asked: all that is driven of the script is done; or it stopped before that.
abbrev pub EndsDriving : (allows : RankFacts → ℕ → Type 0) → RunEnd → Header → (script : Playing) → (new past : History) → (clouds clouds' : List Told) → Type 0
EndsDriving allows (runs.Finished count finish filled) header script new past clouds clouds' =
    (finish ≡ script.finish) × RanWhole header script new past count × AreAsked (under header) new past clouds clouds'
EndsDriving allows (runs.Stopped why) header script new past clouds clouds' =
    Stops allows why header new past (IsDueNext (under header) script.events new past) clouds clouds'

-- what journal and out got of the new events
abbrev pub RunWrites : RunEnd → (j j' o o' : Option (List ℕ)) → (new past : History) → Type 0
RunWrites (runs.Finished count finish filled) j j' o o' new past = WroteAll j j' o o' new past
RunWrites (runs.Stopped why) j j' o o' new past = StopWrites why j j' o o' new past

-- Then the script is driven. The old journal was read to its end and run again, and what was missing in it was written; behind its history
-- there are new events, each the one that comes next in the script's run, and no more than may; all of it was played. Journal and out got what
-- the new events have, and the clouds were asked what they record; those that tell their stores kept step.
pub record RunsOn (allows : RankFacts → ℕ → Type 0) (taken : List ℕ) (old old' : SourceView) (out out' journal journal' : SinkView) (clouds clouds' : List Told)
    (end : RunEnd) : Type 0 where
  pub header : Header
  pub stated : (script_of taken).header ≡ Some header
  pub text : List ℕ
  pub place : Walk
  pub reads : ReadsAll allows header old.left old'.left old.ends old'.ends text place
  pub reopened : Option (List ℕ)
  pub filled_in : Puts journal.written reopened (missing (is_unfinished text) place.awaited)
  pub new : History
  pub known : Known allows header (new ++ place.past)
  pub few : length (new ++ place.past) ≤ events_limit
  pub driven : IsDriven (under header) (script_of taken).events new place.past
  pub live : AreLive new
  pub ends : EndsDriving allows end header (script_of taken) new place.past clouds clouds'
  pub stores : AllKeepStep end (under header) new place.past clouds clouds'
  pub wrote : RunWrites end reopened journal'.written out.written out'.written new place.past
  pub pace : KeepsToHeader taken ⊎ KeepsUp (under header) new place.past taken
  pub journal_failed : end ≡ runs.Stopped (lives.WriteFault whichs.Journal) → Rose journal.faults journal'.faults
  pub out_failed : end ≡ runs.Stopped (lives.WriteFault whichs.Out) → Rose out.faults out'.faults

-- a run of a script, up to the last line
pub record Runs (allows : RankFacts → ℕ → Type 0) (input input' old old' : SourceView) (out out' journal journal' : SinkView) (clouds clouds' : List Told)
    (end : RunEnd) : Type 0 where
  pub taken : List ℕ
  pub reads : ReadsScript input input' taken (filled_of_run end)
  pub comes :
      StopsAtHeader taken old old' out out' journal journal' clouds clouds' end
      ⊎ StopsReopening allows taken old old' out out' journal journal' clouds clouds' end
      ⊎ RunsOn allows taken old old' out out' journal journal' clouds clouds' end

-- the last line by how the old journal, or driving, ended a run; none where writing failed or memory was wanting
abbrev pub live_closing : LiveEnd → Option LastLine
live_closing (lives.ReadFault which) = Some (lasts.ReadFault which)
live_closing (lives.WriteFault which) = None
live_closing (lives.TooLarge which) = Some (lasts.TooLarge which)
live_closing (lives.Bad bad) = Some (lasts.BadJournal bad.line (faults.Bad bad.kind))
live_closing (lives.Unbuilt line) = Some (lasts.BadJournal line faults.Unbuilt)
live_closing (lives.Differs line kept made) = Some (lasts.Differs line kept made)
live_closing lives.Memory = None

-- the last line of a run
abbrev pub closing_of_run : RunEnd → Option LastLine
closing_of_run (runs.Finished count finish filled) = closing_of count finish filled
closing_of_run (runs.Stopped why) = live_closing why

-- whether writing had failed
abbrev pub writing_failed : RunEnd → Bool
writing_failed (runs.Stopped (lives.WriteFault which)) = true
writing_failed other = false

-- the last line was written; with none nothing more was, for want of memory
abbrev pub ClosesBy : Option LastLine → (before after : Option (List ℕ)) → Status → Type 0
ClosesBy (Some last) before after status = Closes last before after status
ClosesBy None before after status = (after ≡ before) × (status ≡ statuses.Memory)

-- the last line was written and gives the status; where writing had failed, nothing more was written
abbrev pub ClosesRun : RunEnd → (before after : Option (List ℕ)) → Status → Type 0
ClosesRun (runs.Stopped (lives.WriteFault which)) before after status = (after ≡ before) × (status ≡ statuses.WriteFault)
ClosesRun end before after status = ClosesBy (closing_of_run end) before after status

-- The call's promise for a script: a run came to an end, out having got what it shows; and then the last line was written, by that end.
pub record RunsScript (allows : RankFacts → ℕ → Type 0) (input input' old old' : SourceView) (out : SinkView) (after : Option (List ℕ)) (journal journal' : SinkView)
    (clouds clouds' : List Told) (status : Status) : Type 0 where
  pub end : RunEnd
  pub shown : SinkView
  pub runs : Runs allows input input' old old' out shown journal journal' clouds clouds' end
  pub closes : ClosesRun end shown.written after status
