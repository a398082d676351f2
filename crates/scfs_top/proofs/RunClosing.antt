-- How a run of a script closes.
use Rattle.std.proofs.Common.{◌≡◌, ◌≤◌, ◌⊎◌, inl, inr, ⊎_elim, ℕ, List, Bool, true, false, Option, Some, None, refl, ap, sym, subst, ◌∙◌}
use Rattle.scfs_base.specs.Outside.{Rose}
use Rattle.scfs_policy.specs.declared.rank.RankFacts.{RankFacts}
use Rattle.scfs_schedule.specs.declared.types.Header.{Header}
use Rattle.scfs_schedule.specs.declared.types.Which.{Which}
use Rattle.scfs_schedule.specs.declared.types.Which.TheVariants as whichs
use Rattle.scfs_live.specs.Asked.{Told}
use Rattle.scfs_live.specs.Reopened.{EndsReopening}
use Rattle.scfs_live.specs.declared.ending.LiveEnd.{LiveEnd}
use Rattle.scfs_live.specs.declared.ending.LiveEnd.TheVariants as lives
use Rattle.scfs_top.specs.declared.closing.Filled.{Filled}
use Rattle.scfs_top.specs.declared.closing.Filled.TheVariants as filleds
use Rattle.scfs_top.specs.declared.closing.Finish.{Finish}
use Rattle.scfs_top.specs.declared.closing.LastLine.{LastLine}
use Rattle.scfs_top.specs.declared.closing.Status.{Status}
use Rattle.scfs_top.specs.declared.closing.Status.TheVariants as statuses
use Rattle.scfs_top.specs.declared.stopping.RunEnd.{RunEnd}
use Rattle.scfs_top.specs.declared.stopping.RunEnd.TheVariants as runs
use Rattle.scfs_top.specs.Closing.{closing_of, closing_status}
use Rattle.scfs_top.specs.Headline.{Closes}
use Rattle.scfs_top.specs.Outer.{SinkView, SourceView}
use Rattle.scfs_top.specs.Running.{ClosesBy, ClosesRun, Runs, RunsOn, StopsReopening, closing_of_run, writing_failed}
use Rattle.scfs_top.proofs.ClosingLemmas.{never_usage, read_fault}
use Rattle.scfs_top.proofs.UnderwayLemmas.{rose_since, same_why}
use Rattle.scfs_top.proofs.LiveLemmas.{rose_later}

-- the last line was written
pub closes_run : (end : RunEnd) (last : LastLine) (before after : Option (List ℕ)) (status : Status) → Some last ≡ closing_of_run end → Closes last before after status
    → ClosesRun end before after status
closes_run (runs.Finished count finish filled) last before after status is closes = subst (λ (o : Option LastLine). ClosesBy o before after status) is closes
closes_run (runs.Stopped (lives.ReadFault which)) last before after status is closes = subst (λ (o : Option LastLine). ClosesBy o before after status) is closes
closes_run (runs.Stopped (lives.TooLarge which)) last before after status is closes = subst (λ (o : Option LastLine). ClosesBy o before after status) is closes
closes_run (runs.Stopped (lives.Bad bad)) last before after status is closes = subst (λ (o : Option LastLine). ClosesBy o before after status) is closes
closes_run (runs.Stopped (lives.Unbuilt line)) last before after status is closes = subst (λ (o : Option LastLine). ClosesBy o before after status) is closes
closes_run (runs.Stopped (lives.Differs line kept made)) last before after status is closes = subst (λ (o : Option LastLine). ClosesBy o before after status) is closes
closes_run (runs.Stopped lives.Memory) last before after status is closes = cc
closes_run (runs.Stopped (lives.WriteFault which)) last before after status is closes = cc

module _ (allows : RankFacts → ℕ → Type 0) (header : Header) (left left' : Option (List ℕ)) (ends ends' : ℕ) (before after : Option (List ℕ)) where
  -- reopening fails at the journal alone
  reopening_writes : (which : Which) → EndsReopening allows header left left' ends ends' before after (lives.WriteFault which) → which ≡ whichs.Journal
  reopening_writes whichs.Journal is = refl
  reopening_writes whichs.Events is = absurd is.ends.ends
  reopening_writes whichs.Input is = absurd is.ends.ends
  reopening_writes whichs.Line is = absurd is.ends.ends
  reopening_writes whichs.Objects is = absurd is.ends.ends
  reopening_writes whichs.Out is = absurd is.ends.ends

  reopening_reads : (which : Which) → EndsReopening allows header left left' ends ends' before after (lives.ReadFault which) → which ≡ whichs.Journal
  reopening_reads whichs.Journal is = refl
  reopening_reads whichs.Events is = absurd is.ends.ends
  reopening_reads whichs.Input is = absurd is.ends.ends
  reopening_reads whichs.Line is = absurd is.ends.ends
  reopening_reads whichs.Objects is = absurd is.ends.ends
  reopening_reads whichs.Out is = absurd is.ends.ends

module _ (allows : RankFacts → ℕ → Type 0) (input input' old old' : SourceView) (out out' journal journal' : SinkView) (clouds clouds' : List Told) where
  reopening_failed : (taken : List ℕ) (which : Which) → StopsReopening allows taken old old' out out' journal journal' clouds clouds' (runs.Stopped (lives.WriteFault which))
      → Rose journal.faults journal'.faults
  reopening_failed taken which s =
      let is : lives.WriteFault which ≡ s.why = same_why (lives.WriteFault which) s.why s.is in
      let journal_is = reopening_writes allows s.header old.left old'.left old.ends old'.ends journal.written journal'.written which
      (subst (λ (why : LiveEnd). EndsReopening allows s.header old.left old'.left old.ends old'.ends journal.written journal'.written why) (sym is) s.reopening) in
      s.write_failed (sym is ∙ ap lives.WriteFault journal_is)

  driving_failed : (taken : List ℕ) (which : Which) → RunsOn allows taken old old' out out' journal journal' clouds clouds' (runs.Stopped (lives.WriteFault which))
      → Rose out.faults out'.faults ⊎ Rose journal.faults journal'.faults
  driving_failed taken whichs.Journal on = inr (on.journal_failed refl)
  driving_failed taken whichs.Out on = inl (on.out_failed refl)
  driving_failed taken whichs.Events on = absurd on.wrote
  driving_failed taken whichs.Input on = absurd on.wrote
  driving_failed taken whichs.Line on = absurd on.wrote
  driving_failed taken whichs.Objects on = absurd on.wrote

  -- writing failed only where a count rose
  write_failed_at : (which : Which) → Runs allows input input' old old' out out' journal journal' clouds clouds' (runs.Stopped (lives.WriteFault which))
      → Rose out.faults out'.faults ⊎ Rose journal.faults journal'.faults
  write_failed_at which r =
      ⊎_elim (λ header. absurd header.ends)
      (λ rest. ⊎_elim (λ s. inr (reopening_failed r.taken which s)) (λ on. driving_failed r.taken which on) rest)
      r.comes

  pub write_failed : (end : RunEnd) → writing_failed end ≡ true → Runs allows input input' old old' out out' journal journal' clouds clouds' end
      → Rose out.faults out'.faults ⊎ Rose journal.faults journal'.faults
  write_failed (runs.Stopped (lives.WriteFault which)) is r = write_failed_at which r
  write_failed (runs.Stopped (lives.ReadFault which)) is r = cc
  write_failed (runs.Stopped (lives.TooLarge which)) is r = cc
  write_failed (runs.Stopped (lives.Bad bad)) is r = cc
  write_failed (runs.Stopped (lives.Unbuilt line)) is r = cc
  write_failed (runs.Stopped (lives.Differs line kept made)) is r = cc
  write_failed (runs.Stopped lives.Memory) is r = cc
  write_failed (runs.Finished count finish filled) is r = cc

  reading_failed : (taken : List ℕ) (which : Which) → StopsReopening allows taken old old' out out' journal journal' clouds clouds' (runs.Stopped (lives.ReadFault which))
      → Rose old.faults old'.faults
  reading_failed taken which s =
      let is : lives.ReadFault which ≡ s.why = same_why (lives.ReadFault which) s.why s.is in
      let journal_is = reopening_reads allows s.header old.left old'.left old.ends old'.ends journal.written journal'.written which
      (subst (λ (why : LiveEnd). EndsReopening allows s.header old.left old'.left old.ends old'.ends journal.written journal'.written why) (sym is) s.reopening) in
      s.read_failed (sym is ∙ ap lives.ReadFault journal_is)

  finished_reading : (count : ℕ) (finish : Finish) (filled : Filled) (closing : Option LastLine) (before after : Option (List ℕ)) → closing ≡ closing_of count finish filled
      → ClosesBy closing before after statuses.ReadFault → filled ≡ filleds.Fault
  finished_reading count finish filled None before after is closes = let e = closes.1 in cc
  finished_reading count finish filled (Some last) before after is closes =
      read_fault count (Some finish) filled statuses.ReadFault (closes.1 ∙ ap closing_status is) refl

  -- reading failed only where a count rose
  pub read_failed : (end : RunEnd) (before after : Option (List ℕ)) → Runs allows input input' old old' out out' journal journal' clouds clouds' end
      → ClosesRun end before after statuses.ReadFault → Rose input.faults input'.faults ⊎ Rose old.faults old'.faults
  read_failed (runs.Finished count finish filled) before after r closes =
      inl (r.reads.failed (finished_reading count finish filled (closing_of count finish filled) before after refl closes))
  read_failed (runs.Stopped (lives.ReadFault which)) before after r closes =
      ⊎_elim (λ header. absurd header.ends) (λ rest. ⊎_elim (λ s. inr (reading_failed r.taken which s)) (λ on. absurd on.wrote) rest) r.comes
  read_failed (runs.Stopped (lives.WriteFault which)) before after r closes = let e = closes.1 in cc
  read_failed (runs.Stopped (lives.TooLarge which)) before after r closes = let e = closes.1 in cc
  read_failed (runs.Stopped (lives.Bad bad)) before after r closes = let e = closes.1 in cc
  read_failed (runs.Stopped (lives.Unbuilt line)) before after r closes = let e = closes.1 in cc
  read_failed (runs.Stopped (lives.Differs line kept made)) before after r closes = let e = closes.1 in cc
  read_failed (runs.Stopped lives.Memory) before after r closes = let e = closes.1 in cc

finished_usage : (count : ℕ) (finish : Finish) (filled : Filled) (closing : Option LastLine) (before after : Option (List ℕ)) → closing ≡ closing_of count finish filled
    → ClosesBy closing before after statuses.Usage → ⊥
finished_usage count finish filled None before after is closes = let e = closes.1 in cc
finished_usage count finish filled (Some last) before after is closes =
    never_usage count (Some finish) filled statuses.Usage (closes.1 ∙ ap closing_status is) refl

-- a run never ends with the line of a wrong command
pub run_never_usage : (end : RunEnd) (before after : Option (List ℕ)) → ClosesRun end before after statuses.Usage → ⊥
run_never_usage (runs.Finished count finish filled) before after closes = finished_usage count finish filled (closing_of count finish filled) before after refl closes
run_never_usage (runs.Stopped (lives.ReadFault which)) before after closes = let e = closes.1 in cc
run_never_usage (runs.Stopped (lives.WriteFault which)) before after closes = let e = closes.1 in cc
run_never_usage (runs.Stopped (lives.TooLarge which)) before after closes = let e = closes.1 in cc
run_never_usage (runs.Stopped (lives.Bad bad)) before after closes = let e = closes.1 in cc
run_never_usage (runs.Stopped (lives.Unbuilt line)) before after closes = let e = closes.1 in cc
run_never_usage (runs.Stopped (lives.Differs line kept made)) before after closes = let e = closes.1 in cc
run_never_usage (runs.Stopped lives.Memory) before after closes = let e = closes.1 in cc

-- the status of a run is that of failing writing only where a count rose
pub run_faults : (allows : RankFacts → ℕ → Type 0) (input input' old old' : SourceView) (out shown : SinkView) (faults : ℕ) (journal journal' : SinkView)
    (clouds clouds' : List Told) (end : RunEnd) (failed : Bool) → writing_failed end ≡ failed
    → Runs allows input input' old old' out shown journal journal' clouds clouds' end → out.faults ≤ shown.faults → shown.faults ≤ faults
    → (writing_failed end ≡ false → Rose shown.faults faults) → Rose out.faults faults ⊎ Rose journal.faults journal'.faults
run_faults allows input input' old old' out shown faults journal journal' clouds clouds' end true is r before later line =
    ⊎_elim (λ rose. inl (rose_later out.faults shown.faults faults rose later)) (λ rose. inr rose)
    (write_failed allows input input' old old' out shown journal journal' clouds clouds' end is r)
run_faults allows input input' old old' out shown faults journal journal' clouds clouds' end false is r before later line =
    inl (rose_since out.faults shown.faults faults before (line is))
