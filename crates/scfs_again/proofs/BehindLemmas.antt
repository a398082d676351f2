-- Two calls, the second over what the first left.
use Rattle.std.proofs.Common.{◌≡◌, ◌≢◌, ℕ, List, [], refl, subst, Option, Some, None, inl, inr}
use Rattle.scfs_policy.specs.declared.rank.RankFacts.{RankFacts}
use Rattle.scfs_schedule.specs.declared.types.BadKind.{BadKind}
use Rattle.scfs_schedule.specs.declared.types.BadKind.TheVariants as kinds
use Rattle.scfs_schedule.specs.declared.types.Ending.TheVariants as endings
use Rattle.scfs_schedule.specs.declared.types.Header.{Header}
use Rattle.scfs_schedule.specs.declared.types.Stop.TheVariants as stops
use Rattle.scfs_schedule.specs.declared.types.Which.TheVariants as whichs
use Rattle.scfs_model.specs.History.{History}
use Rattle.scfs_world.specs.Happening.{IsPlayed}
use Rattle.scfs_live.specs.Keeping.{whole_lines}
use Rattle.scfs_live.specs.Reopened.{EndsReopening}
use Rattle.scfs_live.specs.RunAgain.{GoesAgain, HasOneAnswer, IsLeftOf}
use Rattle.scfs_live.specs.declared.ending.LiveEnd.{LiveEnd}
use Rattle.scfs_live.specs.declared.ending.LiveEnd.TheVariants as lives
use Rattle.scfs_live.proofs.OneRuleLemmas.{outside, same_place}
use Rattle.scfs_top.specs.declared.closing.Filled.{Filled}
use Rattle.scfs_top.specs.declared.closing.Filled.TheVariants as filleds
use Rattle.scfs_top.specs.declared.closing.Finish.{Finish}
use Rattle.scfs_top.specs.declared.closing.Finish.TheVariants as finishes
use Rattle.scfs_top.specs.declared.closing.Status.TheVariants as statuses
use Rattle.scfs_top.specs.declared.stopping.RunEnd.{RunEnd}
use Rattle.scfs_top.specs.declared.stopping.RunEnd.TheVariants as runs
use Rattle.scfs_top.specs.Closing.{bad_closing, closing_of}
use Rattle.scfs_top.specs.Outer.{SinkView}
use Rattle.scfs_top.specs.Running.{ClosesBy, ClosesRun, EndsDriving}
use Rattle.scfs_top.specs.Scripting.{script_of}
use Rattle.scfs_again.specs.Again.{EndsEarlier, GoesOn}
use Rattle.scfs_again.specs.Behind.{ComesBehind, IsCutShort, OneRuleGoesOn, SecondCallsGoOn}
use Rattle.scfs_again.specs.Calls.{Call, Comes, Course, HasRun, Meets, course_by, course_in_old, course_of, history}
use Rattle.scfs_again.proofs.AgainLemmas.{calls_go_on}
use Rattle.scfs_again.proofs.LeavesLemmas.{calls_leave}
use Rattle.scfs_again.proofs.WholeLemmas.{none_missing}

module _ (allows later : RankFacts → ℕ → Type 0) (first second : Call) (meets : Meets allows first) (again : Meets later second) (course : Course) (text : List ℕ)
    (behind : ComesBehind allows later first second meets again course text) where
  left_first : IsLeftOf course.header (history course) text
  left_first = (calls_leave allows).left first meets course text behind.ran behind.said behind.leaves

  goes_second : GoesOn later course.header (history course) text second again
  goes_second = calls_go_on later course.header (history course) text second again left_first behind.reads behind.header

  whole_second : behind.leaves.lost ≡ [] → first.status ≢ statuses.WriteFault → (next : Course)
      → (goes : GoesAgain course.header (history course) (whole_lines text) next.place) → goes.whole ≡ history course
  whole_second lost other next goes =
      none_missing course.header (history course) text next.place ((calls_leave allows).whole first meets course text behind.ran behind.leaves lost other) goes

pub second_calls_go_on : (allows later : RankFacts → ℕ → Type 0) → SecondCallsGoOn allows later
second_calls_go_on allows later = record {
  goes_on = λ first second meets again course text behind. goes_second allows later first second meets again course text behind;
  whole = λ first second meets again course next text behind lost other has goes.
      whole_second allows later first second meets again course text behind lost other next goes;
}

-- the history of a call was played

abbrev WasPlayed : (allows : RankFacts → ℕ → Type 0) → Course → Type 0
WasPlayed allows course = IsPlayed allows course.header (history course) × IsPlayed allows course.header course.place.past

module _ (allows : RankFacts → ℕ → Type 0) (call : Call) (taken : List ℕ) (shown : SinkView) where
  played_in_old : (header : Header) (why : LiveEnd)
      → (r : EndsReopening allows header call.old.left call.old'.left call.old.ends call.old'.ends call.journal.written call.journal'.written why) → (course : Course)
      → course_in_old allows header call.old.left call.old'.left call.old.ends call.old'.ends call.journal.written call.journal'.written why r ≡ Some course
      → WasPlayed allows course
  played_in_old header (lives.WriteFault whichs.Journal) u course is =
      let made : Course = record { header = header; place = u.place; new = [] } in
      let same : made ≡ course = cc in
      subst (WasPlayed allows) same (u.reads.runs.runs.plays, u.reads.runs.runs.plays)
  played_in_old header why r course is = cc

  played_by : (end : RunEnd) (comes : Comes allows call taken shown end) (course : Course) → course_by allows call taken shown end comes ≡ Some course
      → WasPlayed allows course
  played_by end (inl at) course is = cc
  played_by end (inr (inl s)) course is = played_in_old s.header s.why s.reopening course is
  played_by end (inr (inr on)) course is =
      let made : Course = record { header = on.header; place = on.place; new = on.new } in
      let same : made ≡ course = cc in
      subst (WasPlayed allows) same (on.known.plays, on.reads.runs.runs.plays)

  -- one that has a course does not end at a line that differs
  agrees_in_old : (header : Header) (why : LiveEnd)
      → (r : EndsReopening allows header call.old.left call.old'.left call.old.ends call.old'.ends call.journal.written call.journal'.written why) → (course : Course)
      → course_in_old allows header call.old.left call.old'.left call.old.ends call.old'.ends call.journal.written call.journal'.written why r ≡ Some course
      → why ≡ lives.WriteFault whichs.Journal
  agrees_in_old header (lives.WriteFault whichs.Journal) u course is = refl
  agrees_in_old header why r course is = cc

  agrees_by : (end : RunEnd) (comes : Comes allows call taken shown end) (course : Course) → course_by allows call taken shown end comes ≡ Some course
      → (number : ℕ) (kept made : List ℕ) → end ≡ runs.Stopped (lives.Differs number kept made) → ⊥
  agrees_by end (inl at) course is number kept made ends = cc
  agrees_by end (inr (inl s)) course is number kept made ends =
      let why = agrees_in_old s.header s.why s.reopening course is in
      let same = s.is in
      cc
  agrees_by end (inr (inr on)) course is number kept made ends =
      subst (λ (e : RunEnd). EndsDriving allows e on.header (script_of taken) on.new on.place.past call.clouds call.clouds') ends on.ends

-- only a line that differs gives status 7

bad_agrees : (line : ℕ) (kind : BadKind) (filled : Filled) (before after : Option (List ℕ)) → ClosesBy (bad_closing line kind filled) before after statuses.Differs → ⊥
bad_agrees line kinds.End filleds.End before after closes = let is = closes.1 in cc
bad_agrees line kinds.End filleds.Fault before after closes = let is = closes.1 in cc
bad_agrees line kinds.End filleds.Full before after closes = let is = closes.1 in cc
bad_agrees line kinds.End filleds.Open before after closes = let is = closes.1 in cc
bad_agrees line kinds.Order filled before after closes = let is = closes.1 in cc
bad_agrees line kinds.Word filled before after closes = let is = closes.1 in cc
bad_agrees line kinds.Number filled before after closes = let is = closes.1 in cc
bad_agrees line kinds.Hex filled before after closes = let is = closes.1 in cc
bad_agrees line kinds.Path filled before after closes = let is = closes.1 in cc

finish_agrees : (count : ℕ) (finish : Finish) (filled : Filled) (before after : Option (List ℕ)) → ClosesBy (closing_of count finish filled) before after statuses.Differs → ⊥
finish_agrees count (finishes.Text endings.Ended) filled before after closes = let is = closes.1 in cc
finish_agrees count (finishes.Text (endings.Stopped (stops.Bad bad))) filled before after closes = bad_agrees bad.line bad.kind filled before after closes
finish_agrees count (finishes.Text (endings.Stopped (stops.TooLarge which))) filled before after closes = let is = closes.1 in cc
finish_agrees count (finishes.Text (endings.Stopped stops.Memory)) filled before after closes = let is = closes.1 in cc
finish_agrees count (finishes.Unbuilt line) filled before after closes = let is = closes.1 in cc
finish_agrees count finishes.Events filled before after closes = let is = closes.1 in cc
finish_agrees count finishes.Objects filled before after closes = let is = closes.1 in cc

differing : (end : RunEnd) (before after : Option (List ℕ)) → ClosesRun end before after statuses.Differs
    → (number : ℕ) × (kept : List ℕ) × (made : List ℕ) × (end ≡ runs.Stopped (lives.Differs number kept made))
differing (runs.Finished count finish filled) before after closes = absurd (finish_agrees count finish filled before after closes)
differing (runs.Stopped (lives.Differs number kept made)) before after closes = (number, kept, made, refl)
differing (runs.Stopped why) before after closes = let is = closes.1 in cc

module _ (allows : RankFacts → ℕ → Type 0) (one : HasOneAnswer allows) (first second : Call) (meets : Meets allows first) (again : Meets allows second) (course : Course)
    (text : List ℕ) (behind : ComesBehind allows allows first second meets again course text) where
  abbrev past : History
  past = history course

  plays : IsPlayed allows course.header past
  plays = (played_by allows first meets.runs.taken meets.shown meets.end meets.runs.comes course behind.ran).0

  goes : GoesOn allows course.header past text second again
  goes = goes_second allows allows first second meets again course text behind

  entries : (next : Course) → HasRun allows second again next → (g : GoesAgain course.header past (whole_lines text) next.place) → next.place.past ≡ g.whole
  entries next has g =
      let played = (played_by allows second again.runs.taken again.shown again.end again.runs.comes next has).1 in
      same_place allows one course.header past plays (whole_lines text) next.place g
      (subst (λ (h : Header). IsPlayed allows h next.place.past) (goes.goes next has).0 played)

  cut_short : (end : RunEnd) → EndsEarlier allows course.header past text second end → IsCutShort end
  cut_short (runs.Stopped (lives.ReadFault whichs.Journal)) e = tt
  cut_short (runs.Stopped lives.Memory) e = tt
  cut_short (runs.Stopped (lives.Differs number kept made)) e =
      outside allows one course.header past plays text None None (lives.Differs number kept made) (refl, e.0)
  cut_short (runs.Stopped (lives.TooLarge whichs.Objects)) e =
      outside allows one course.header past plays text None None (lives.TooLarge whichs.Objects) (refl, e)
  cut_short other e = absurd e

  by_course : (o : Option Course) → course_of allows second again ≡ o → (number : ℕ) (kept made : List ℕ) → again.end ≡ runs.Stopped (lives.Differs number kept made) → ⊥
  by_course None none number kept made ends = subst IsCutShort ends (cut_short again.end (goes.earlier none))
  by_course (Some next) has number kept made ends =
      agrees_by allows second again.runs.taken again.shown again.end again.runs.comes next has number kept made ends

  never_differs : second.status ≢ statuses.Differs
  never_differs is =
      let d = differing again.end again.shown.written second.shown (subst (ClosesRun again.end again.shown.written second.shown) is again.closes) in
      by_course (course_of allows second again) refl d.0 d.1 d.2 d.3

pub one_rule_goes_on : (allows : RankFacts → ℕ → Type 0) → OneRuleGoesOn allows
one_rule_goes_on allows = record {
  entries = λ first second meets again course next text one behind has g. entries allows one first second meets again course text behind next has g;
  earlier = λ first second meets again course text one behind none.
      cut_short allows one first second meets again course text behind again.end ((goes allows one first second meets again course text behind).earlier none);
  differs = λ first second meets again course text one behind. never_differs allows one first second meets again course text behind;
}
