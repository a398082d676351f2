-- What a call leaves in its journal.
use Rattle.std.proofs.Common.{◌≡◌, ◌≢◌, ◌≤◌, ℕ, List, [], ◌∷◌, ◌++◌, ap, ◌∙◌, sym, subst, Option, Some, None, inl, inr, length, append_assoc, append-nil, arith}
use Rattle.std.proofs.lemmas.List.{append_cancel_left}
use Rattle.scfs_base.specs.Limits.{events_limit}
use Rattle.scfs_policy.specs.declared.rank.RankFacts.{RankFacts}
use Rattle.scfs_schedule.specs.Holding.{is_unfinished}
use Rattle.scfs_schedule.specs.declared.types.Event.{Event}
use Rattle.scfs_schedule.specs.declared.types.Header.{Header}
use Rattle.scfs_schedule.specs.declared.types.Which.TheVariants as whichs
use Rattle.scfs_model.specs.History.{History}
use Rattle.scfs_live.specs.GoingOn.{AreDone, awaited_lines, journal_lines, kept_lines}
use Rattle.scfs_live.specs.Journal.{pieces_of}
use Rattle.scfs_live.specs.Keeping.{missing, whole_lines}
use Rattle.scfs_live.specs.Limits.{journal_limit}
use Rattle.scfs_live.specs.Reopened.{EndsReopening, RunsAll, Unwritten, old_lines}
use Rattle.scfs_live.specs.RunAgain.{IsLeftOf}
use Rattle.scfs_live.specs.Stopped.{WereDriven}
use Rattle.scfs_live.specs.declared.ending.LiveEnd.{LiveEnd}
use Rattle.scfs_live.specs.declared.ending.LiveEnd.TheVariants as lives
use Rattle.scfs_live.proofs.DoneLemmas.{walked_are_done}
use Rattle.scfs_live.proofs.KeptLemmas.{walked_are_kept}
use Rattle.scfs_live.proofs.SplitLemmas.{split_whole}
use Rattle.scfs_live.proofs.StoppedLemmas.{stopped_calls_leave}
use Rattle.scfs_top.specs.declared.closing.Status.{Status}
use Rattle.scfs_top.specs.declared.closing.Status.TheVariants as statuses
use Rattle.scfs_top.specs.declared.stopping.RunEnd.{RunEnd}
use Rattle.scfs_top.specs.declared.stopping.RunEnd.TheVariants as runs
use Rattle.scfs_top.specs.Outer.{SinkView}
use Rattle.scfs_top.specs.Running.{ClosesRun, RunsOn}
use Rattle.scfs_top.specs.Scripting.{script_of}
use Rattle.scfs_again.specs.Calls.{Call, Comes, Course, course_by, course_in_old, history}
use Rattle.scfs_again.specs.Leaving.{CallsLeaveJournals, Leaves, SaidBytes}
use Rattle.scfs_again.proofs.GivenLemmas.{script_given}
use Rattle.scfs_again.proofs.HeaderLemmas.{header_of_script}
use Rattle.scfs_again.proofs.WholeLemmas.{whole_journal}
use Rattle.scfs_again.proofs.WroteLemmas.{Got, got_behind, got_front, got_pieces, puts_told, took_all}

-- the events of an old journal that was run again are not too many
few_done : (header : Header) (past : History) → AreDone header past → length past ≤ events_limit
few_done header [] done = omega arith
few_done header (e ∷ past) done = omega (arith, done.2)

-- What is known of a call that ran its old journal to the end: these bytes of it lead to the course's place; the new events are those of
-- a script's run; and what the journal got is a front of what was missing and of their pieces.
record Ran (allows : RankFacts → ℕ → Type 0) (call : Call) (end : RunEnd) (course : Course) : Type 0 where
  text : List ℕ
  is : (had : List ℕ) → call.old.left ≡ Some had → text ≡ had
  runs : RunsAll allows course.header text course.place
  script : List Event
  were : SaidBytes course → WereDriven allows course.header script course.new course.place.past
  got : (before : List ℕ) → call.journal.written ≡ Some before
      → Got before call.journal'.written (missing (is_unfinished text) course.place.awaited ++ pieces_of course.new course.place.past) end

module _ (allows : RankFacts → ℕ → Type 0) (call : Call) (taken : List ℕ) where
  ran_on : (shown : SinkView) (end : RunEnd) (on : RunsOn allows taken call.old call.old' call.out shown call.journal call.journal' call.clouds call.clouds' end)
      → Ran allows call end (record { header = on.header; place = on.place; new = on.new })
  ran_on shown end on =
      let given = script_given taken on.header on.stated in
      record {
        text = on.text;
        is = λ had told. took_all had on.text call.old.left call.old'.left told on.reads.takes on.reads.nothing_left;
        runs = on.reads.runs;
        script = (script_of taken).events;
        were = λ said. record {
          header_is = header_of_script taken on.header given.0;
          given = given.1;
          said = said;
          driven = on.driven;
          plays = on.known.plays;
          few = on.few;
        };
        got = λ before told.
            (let first = missing (is_unfinished on.text) on.place.awaited in
            let between = puts_told call.journal.written on.reopened before first told on.filled_in in
            got_behind first before call.journal'.written (pieces_of on.new on.place.past) end
            (got_pieces on.reopened call.journal'.written call.out.written shown.written (before ++ first) on.new on.place.past between end on.wrote));
      }

  ran_unwritten : (header : Header) → (script_of taken).header ≡ Some header
      → (u : Unwritten allows header call.old.left call.old'.left call.old.ends call.old'.ends call.journal.written call.journal'.written)
      → Ran allows call (runs.Stopped (lives.WriteFault whichs.Journal)) (record { header = header; place = u.place; new = [] })
  ran_unwritten header stated u =
      let given = script_given taken header stated in
      let done = walked_are_done header (old_lines u.taken).lines u.place u.reads.runs.runs.walks in
      let text = missing (is_unfinished u.taken) u.place.awaited in
      record {
        text = u.taken;
        is = λ had told. took_all had u.taken call.old.left call.old'.left told u.reads.takes u.reads.nothing_left;
        runs = u.reads.runs;
        script = [];
        were = λ said. record {
          header_is = header_of_script taken header given.0;
          given = tt;
          said = tt;
          driven = tt;
          plays = u.reads.runs.runs.plays;
          few = few_done header u.place.past done;
        };
        got = λ before told.
            subst (λ t. Got before call.journal'.written t (runs.Stopped (lives.WriteFault whichs.Journal))) (sym (append-nil text))
            (got_front call.journal.written call.journal'.written before text told u.wrote);
      }

  ran_in_old : (header : Header) → (script_of taken).header ≡ Some header → (why : LiveEnd)
      → (r : EndsReopening allows header call.old.left call.old'.left call.old.ends call.old'.ends call.journal.written call.journal'.written why) → (course : Course)
      → course_in_old allows header call.old.left call.old'.left call.old.ends call.old'.ends call.journal.written call.journal'.written why r ≡ Some course
      → Ran allows call (runs.Stopped why) course
  ran_in_old header stated (lives.WriteFault whichs.Journal) u course is =
      let made : Course = record { header = header; place = u.place; new = [] } in
      let same : made ≡ course = cc in
      subst (λ (c : Course). Ran allows call (runs.Stopped (lives.WriteFault whichs.Journal)) c) same (ran_unwritten header stated u)
  ran_in_old header stated why r course is = cc

  ran_by : (shown : SinkView) (end : RunEnd) (comes : Comes allows call taken shown end) (course : Course) → course_by allows call taken shown end comes ≡ Some course
      → Ran allows call end course
  ran_by shown end (inl at_header) course is = cc
  ran_by shown end (inr (inl s)) course is =
      subst (λ (e : RunEnd). Ran allows call e course) (sym s.is) (ran_in_old s.header s.stated s.why s.reopening course is)
  ran_by shown end (inr (inr on)) course is =
      let made : Course = record { header = on.header; place = on.place; new = on.new } in
      let same : made ≡ course = cc in
      subst (λ (c : Course). Ran allows call end c) same (ran_on shown end on)

  -- a call with no course wrote nothing
  nothing_in_old : (header : Header) (why : LiveEnd)
      → (r : EndsReopening allows header call.old.left call.old'.left call.old.ends call.old'.ends call.journal.written call.journal'.written why)
      → course_in_old allows header call.old.left call.old'.left call.old.ends call.old'.ends call.journal.written call.journal'.written why r ≡ None
      → call.journal'.written ≡ call.journal.written
  nothing_in_old header (lives.WriteFault whichs.Journal) u is = cc
  nothing_in_old header why r is = r.nothing

  nothing_by : (shown : SinkView) (end : RunEnd) (comes : Comes allows call taken shown end) → course_by allows call taken shown end comes ≡ None
      → call.journal'.written ≡ call.journal.written
  nothing_by shown end (inl at_header) is = ap (λ (j : SinkView). j.written) at_header.journal_stays
  nothing_by shown end (inr (inl s)) is = nothing_in_old s.header s.why s.reopening is
  nothing_by shown end (inr (inr on)) is = cc

same_some : (x y : List ℕ) → Some x ≡ Some y → x ≡ y
same_some x y is = cc

-- what the journal got is what is still there of it and what is lost, and then perhaps more was to come
record Parted (call : Call) (text : List ℕ) (leaves : Leaves call text) (end : RunEnd) (whole : List ℕ) : Type 0 where
  back : List ℕ
  parts : whole ≡ leaves.there ++ (leaves.lost ++ back)
  all : end ≢ runs.Stopped (lives.WriteFault whichs.Journal) → back ≡ []

parted : (call : Call) (text : List ℕ) (leaves : Leaves call text) (end : RunEnd) (whole : List ℕ) → Got leaves.before call.journal'.written whole end
    → Parted call text leaves end whole
parted call text leaves end whole got =
    let wrote = leaves.there ++ leaves.lost in
    let same : leaves.before ++ got.front ≡ leaves.before ++ wrote = same_some (leaves.before ++ got.front) (leaves.before ++ wrote) (sym got.told ∙ leaves.wrote) in
    let front : got.front ≡ wrote = append_cancel_left leaves.before got.front wrote same in
    record {
      back = got.back;
      parts = got.parts ∙ ap (λ t. t ++ got.back) front ∙ append_assoc leaves.there leaves.lost got.back;
      all = got.all;
    }

module _ (allows : RankFacts → ℕ → Type 0) (call : Call) (end : RunEnd) (course : Course) (ran : Ran allows call end course) (text : List ℕ) (leaves : Leaves call text) where
  same_text : ran.text ≡ leaves.had
  same_text = ran.is leaves.had leaves.read

  run_again : RunsAll allows course.header leaves.had course.place
  run_again = subst (λ t. RunsAll allows course.header t course.place) same_text ran.runs

  parts_of : Parted call text leaves end (missing (is_unfinished leaves.had) course.place.awaited ++ pieces_of course.new course.place.past)
  parts_of =
      subst (λ t. Parted call text leaves end (missing (is_unfinished t) course.place.awaited ++ pieces_of course.new course.place.past)) same_text
      (parted call text leaves end (missing (is_unfinished ran.text) course.place.awaited ++ pieces_of course.new course.place.past) (ran.got leaves.before leaves.was))

  left_of : SaidBytes course → IsLeftOf course.header (history course) text
  left_of said =
      let p = parts_of in
      subst (λ t. IsLeftOf course.header (history course) t) (sym leaves.is)
      (stopped_calls_leave allows course.header ran.script course.place course.new leaves.had leaves.there (leaves.lost ++ p.back) run_again (ran.were said) p.parts
      (ap (λ t. (old_lines t).passed) (sym leaves.is) ∙ leaves.within))

  whole_of : leaves.lost ≡ [] → end ≢ runs.Stopped (lives.WriteFault whichs.Journal) → kept_lines (whole_lines text) ≡ journal_lines course.header (history course)
  whole_of lost wrote =
      let p = parts_of in
      let lines = (old_lines leaves.had).lines in
      let whole = split_whole journal_limit whichs.Journal leaves.had run_again.within in
      let kept = ap (λ ls. kept_lines ls ++ awaited_lines course.place.awaited) (sym whole) ∙ walked_are_kept course.header lines course.place run_again.runs.walks in
      let there : leaves.there ≡ missing (is_unfinished leaves.had) course.place.awaited ++ pieces_of course.new course.place.past =
      sym (p.parts ∙ ap (λ l. leaves.there ++ (l ++ p.back)) lost ∙ ap (λ b. leaves.there ++ b) (p.all wrote) ∙ append-nil leaves.there) in
      ap (λ t. kept_lines (whole_lines t)) (leaves.is ∙ ap (λ t. leaves.had ++ t) there) ∙ whole_journal course.header course.place leaves.had kept course.new

-- with another status than that of a failed write the journal did not fail
did_not_fail : (end : RunEnd) (before after : Option (List ℕ)) (status : Status) → ClosesRun end before after status → status ≢ statuses.WriteFault
    → end ≢ runs.Stopped (lives.WriteFault whichs.Journal)
did_not_fail end before after status closes other is =
    other (subst (λ (e : RunEnd). ClosesRun e before after status) is closes).1

pub calls_leave : (allows : RankFacts → ℕ → Type 0) → CallsLeaveJournals allows
calls_leave allows = record {
  nothing = λ call meets none. nothing_by allows call meets.runs.taken meets.shown meets.end meets.runs.comes none;
  left = λ call meets course text has said leaves.
      left_of allows call meets.end course (ran_by allows call meets.runs.taken meets.shown meets.end meets.runs.comes course has) text leaves said;
  whole = λ call meets course text has leaves lost other.
      whole_of allows call meets.end course (ran_by allows call meets.runs.taken meets.shown meets.end meets.runs.comes course has) text leaves lost
      (did_not_fail meets.end meets.shown.written call.shown call.status meets.closes other);
}
