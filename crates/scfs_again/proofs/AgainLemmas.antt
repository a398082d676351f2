-- A call over what is left of a journal.
use Rattle.std.proofs.Common.{◌≡◌, ℕ, List, [], refl, ap, ◌∙◌, sym, subst, Option, Some, None, inl, inr}
use Rattle.scfs_policy.specs.declared.rank.RankFacts.{RankFacts}
use Rattle.scfs_schedule.specs.declared.types.Header.{Header}
use Rattle.scfs_schedule.specs.declared.types.Which.TheVariants as whichs
use Rattle.scfs_model.specs.History.{History}
use Rattle.scfs_live.specs.Keeping.{whole_lines}
use Rattle.scfs_live.specs.Limits.{journal_limit}
use Rattle.scfs_live.specs.Reopened.{EndsReopening, ReadsAll, old_lines}
use Rattle.scfs_live.specs.Reopening.{Walk, Walks, unwalked}
use Rattle.scfs_live.specs.RunAgain.{EndsLeft, GoesAgain, IsLeftOf}
use Rattle.scfs_live.specs.declared.ending.LiveEnd.{LiveEnd}
use Rattle.scfs_live.specs.declared.ending.LiveEnd.TheVariants as lives
use Rattle.scfs_live.proofs.AnswerLemmas.{goes_again}
use Rattle.scfs_live.proofs.RunAgainLemmas.{left_journals_reopen}
use Rattle.scfs_live.proofs.SplitLemmas.{split_whole}
use Rattle.scfs_top.specs.declared.closing.Finish.{Finish}
use Rattle.scfs_top.specs.declared.stopping.RunEnd.{RunEnd}
use Rattle.scfs_top.specs.declared.stopping.RunEnd.TheVariants as runs
use Rattle.scfs_top.specs.Outer.{SinkView}
use Rattle.scfs_top.specs.Playing.{Playing, finished}
use Rattle.scfs_top.specs.Running.{ClosesRun, EndsDriving, EndsInHeader}
use Rattle.scfs_top.specs.Scripting.{script_of}
use Rattle.scfs_again.specs.Again.{CallsGoOn, EndsEarlier, IsNoRefusal}
use Rattle.scfs_again.specs.Calls.{Call, Comes, Course, course_by, course_in_old}
use Rattle.scfs_again.proofs.WroteLemmas.{took_all}

same_header : (o : Option Header) (h header : Header) → o ≡ Some h → o ≡ Some header → h ≡ header
same_header o h header is stated = cc

-- how it ends at the script's header, where the script has it
no_header : (script : Playing) (header : Header) (finish : Finish) → script.header ≡ Some header → script ≡ finished finish → ⊥
no_header script header finish stated is = let none = ap (λ (p : Playing). p.header) is in cc

abbrev AtHeader : RunEnd → Type 0
AtHeader end = end ≡ runs.Stopped lives.Memory

at_header : (end : RunEnd) (script : Playing) (header : Header) → script.header ≡ Some header → EndsInHeader end script → AtHeader end
at_header (runs.Finished count finish filled) script header stated ends = absurd (no_header script header finish stated ends.1)
at_header (runs.Stopped lives.Memory) script header stated ends = refl
at_header (runs.Stopped other) script header stated ends = absurd ends

module _ (allows : RankFacts → ℕ → Type 0) (header : Header) (past : History) (text : List ℕ) (left : IsLeftOf header past text) (call : Call)
    (reads : call.old.left ≡ Some text) (taken : List ℕ) (stated : (script_of taken).header ≡ Some header) (shown : SinkView) where
  -- all of it was read and run again
  all_again : (h : Header) (left' : Option (List ℕ)) (ends_then ends_now : ℕ) (all : List ℕ) (place : Walk) → (script_of taken).header ≡ Some h
      → ReadsAll allows h call.old.left left' ends_then ends_now all place → (h ≡ header) × GoesAgain header past (whole_lines text) place
  all_again h left' ends_then ends_now all place is r =
      let same = same_header (script_of taken).header h header is stated in
      let took = took_all text all call.old.left left' reads r.takes r.nothing_left in
      let lines : (old_lines all).lines ≡ whole_lines text = split_whole journal_limit whichs.Journal all r.runs.within ∙ ap whole_lines took in
      let walks = subst (λ ls. Walks h (unwalked h) ls place) lines r.runs.runs.walks in (
        same,
        goes_again allows header past left.done left.plays (whole_lines text) left.left.0 place left.left.1
            (subst (λ (x : Header). Walks x (unwalked x) (whole_lines text) place) same walks),
      )

  abbrev Again : Course → Type 0
  Again course = (course.header ≡ header) × GoesAgain header past (whole_lines text) course.place

  again_in_old : (h : Header) → (script_of taken).header ≡ Some h → (why : LiveEnd)
      → (r : EndsReopening allows h call.old.left call.old'.left call.old.ends call.old'.ends call.journal.written call.journal'.written why) → (course : Course)
      → course_in_old allows h call.old.left call.old'.left call.old.ends call.old'.ends call.journal.written call.journal'.written why r ≡ Some course
      → Again course
  again_in_old h said (lives.WriteFault whichs.Journal) u course is =
      let made : Course = record { header = h; place = u.place; new = [] } in
      let same : made ≡ course = cc in
      subst Again same (all_again h call.old'.left call.old.ends call.old'.ends u.taken u.place said u.reads)
  again_in_old h said why r course is = cc

  again_by : (end : RunEnd) (comes : Comes allows call taken shown end) (course : Course) → course_by allows call taken shown end comes ≡ Some course → Again course
  again_by end (inl at) course is = cc
  again_by end (inr (inl s)) course is = again_in_old s.header s.stated s.why s.reopening course is
  again_by end (inr (inr on)) course is =
      let made : Course = record { header = on.header; place = on.place; new = on.new } in
      let same : made ≡ course = cc in
      subst Again same (all_again on.header call.old'.left call.old.ends call.old'.ends on.text on.place on.stated on.reads)

  -- how running it again ends
  ends_left : (h : Header) → (script_of taken).header ≡ Some h → (why : LiveEnd)
      → EndsReopening allows h call.old.left call.old'.left call.old.ends call.old'.ends call.journal.written call.journal'.written why
      → EndsLeft allows header past text call.journal.written call.journal'.written why
  ends_left h said why r =
      let same = same_header (script_of taken).header h header said stated in
      let told = subst (λ l. EndsReopening allows h l call.old'.left call.old.ends call.old'.ends call.journal.written call.journal'.written why) reads r in
      (left_journals_reopen allows).end header past text call.old'.left call.old.ends call.old'.ends call.journal.written call.journal'.written why left
      (subst (λ (x : Header). EndsReopening allows x (Some text) call.old'.left call.old.ends call.old'.ends call.journal.written call.journal'.written why) same told)

  earlier_left : (why : LiveEnd) → EndsLeft allows header past text call.journal.written call.journal'.written why
      → ClosesRun (runs.Stopped why) call.out.written call.shown call.status → (why ≡ lives.WriteFault whichs.Journal → ⊥)
      → EndsEarlier allows header past text call (runs.Stopped why)
  earlier_left (lives.ReadFault whichs.Journal) e closes other = tt
  earlier_left lives.Memory e closes other = tt
  earlier_left (lives.Differs number kept made) e closes other = (e.1, closes)
  earlier_left (lives.TooLarge whichs.Objects) e closes other = e.1
  earlier_left (lives.WriteFault whichs.Journal) e closes other = absurd (other refl)
  earlier_left why e closes other = absurd e

  earlier_in_old : (h : Header) → (script_of taken).header ≡ Some h → (why : LiveEnd)
      → (r : EndsReopening allows h call.old.left call.old'.left call.old.ends call.old'.ends call.journal.written call.journal'.written why)
      → course_in_old allows h call.old.left call.old'.left call.old.ends call.old'.ends call.journal.written call.journal'.written why r ≡ None
      → ClosesRun (runs.Stopped why) call.out.written call.shown call.status → EndsEarlier allows header past text call (runs.Stopped why)
  earlier_in_old h said (lives.WriteFault whichs.Journal) u none closes = cc
  earlier_in_old h said why r none closes = earlier_left why (ends_left h said why r) closes (λ is. cc)

  earlier_by : (end : RunEnd) (comes : Comes allows call taken shown end) → ClosesRun end shown.written call.shown call.status
      → course_by allows call taken shown end comes ≡ None → EndsEarlier allows header past text call end
  earlier_by end (inl at) closes none = subst (EndsEarlier allows header past text call) (sym (at_header end (script_of taken) header stated at.ends)) tt
  earlier_by end (inr (inl s)) closes none =
      let by_end = subst (λ (e : RunEnd). ClosesRun e shown.written call.shown call.status) s.is closes in
      let by_out = subst (λ (o : SinkView). ClosesRun (runs.Stopped s.why) o.written call.shown call.status) s.out_stays by_end in
      subst (EndsEarlier allows header past text call) (sym s.is) (earlier_in_old s.header s.stated s.why s.reopening none by_out)
  earlier_by end (inr (inr on)) closes none = cc

  -- no line was refused

  accepted_left : (why : LiveEnd) → EndsLeft allows header past text call.journal.written call.journal'.written why → IsNoRefusal (runs.Stopped why)
  accepted_left (lives.Bad bad) e = e
  accepted_left (lives.Unbuilt line) e = e
  accepted_left (lives.TooLarge whichs.Journal) e = e
  accepted_left (lives.TooLarge whichs.Line) e = e
  accepted_left why e = tt

  accepted_on : (h : Header) (script : Playing) (new old : History) (end : RunEnd) → EndsDriving allows end h script new old call.clouds call.clouds' → IsNoRefusal end
  accepted_on h script new old (runs.Finished count finish filled) e = tt
  accepted_on h script new old (runs.Stopped (lives.Bad bad)) e = e
  accepted_on h script new old (runs.Stopped (lives.Unbuilt line)) e = e
  accepted_on h script new old (runs.Stopped (lives.TooLarge whichs.Journal)) e = e
  accepted_on h script new old (runs.Stopped (lives.TooLarge whichs.Line)) e = e
  accepted_on h script new old (runs.Stopped why) e = tt

  accepted_by : (end : RunEnd) (comes : Comes allows call taken shown end) → IsNoRefusal end
  accepted_by end (inl at) = subst IsNoRefusal (sym (at_header end (script_of taken) header stated at.ends)) tt
  accepted_by end (inr (inl s)) = subst IsNoRefusal (sym s.is) (accepted_left s.why (ends_left s.header s.stated s.why s.reopening))
  accepted_by end (inr (inr on)) = accepted_on on.header (script_of taken) on.new on.place.past end on.ends

pub calls_go_on : (allows : RankFacts → ℕ → Type 0) → CallsGoOn allows
calls_go_on allows header past text call meets left reads stated =
    let taken = meets.runs.taken in
    let comes = meets.runs.comes in
    record {
      goes = λ course has. again_by allows header past text left call reads taken stated meets.shown meets.end comes course has;
      earlier = λ none. earlier_by allows header past text left call reads taken stated meets.shown meets.end comes meets.closes none;
      accepted = accepted_by allows header past text left call reads taken stated meets.shown meets.end comes;
    }
