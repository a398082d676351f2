-- What reopening answers over what is left of a journal.
use Rattle.std.proofs.Common.{◌≡◌, ℕ, List, [], ◌∷◌, ◌++◌, ap, ◌∙◌, sym, subst, Option, Some, None, append_assoc, append-nil}
use Rattle.std.specs.Prelude.{IfSome}
use Rattle.scfs_base.specs.Outside.{Puts, Takes}
use Rattle.scfs_policy.specs.declared.rank.RankFacts.{RankFacts}
use Rattle.scfs_schedule.specs.Holding.{is_unfinished}
use Rattle.scfs_schedule.specs.declared.types.Header.{Header}
use Rattle.scfs_schedule.specs.declared.types.Which.{Which}
use Rattle.scfs_schedule.specs.declared.types.Which.TheVariants as whichs
use Rattle.scfs_model.specs.History.{History}
use Rattle.scfs_world.specs.State.{WorldState}
use Rattle.scfs_live.specs.declared.ending.LiveEnd.{LiveEnd}
use Rattle.scfs_live.specs.declared.ending.LiveEnd.TheVariants as ends
use Rattle.scfs_live.specs.Edges.{GetsPart}
use Rattle.scfs_live.specs.Keeping.{missing, whole_lines}
use Rattle.scfs_live.specs.Limits.{journal_limit}
use Rattle.scfs_live.specs.Reopened.{EndsReopening, Reopens, RunsAll, StopsAt, Unread, Unwritten, old_lines}
use Rattle.scfs_live.specs.Reopening.{Walk, Walks, unwalked}
use Rattle.scfs_live.specs.RunAgain.{EndsLeft, GoesAgain, IsLeftOf, LeftJournalsReopen, ReopensAgain, UnwrittenAgain}
use Rattle.scfs_live.proofs.AnswerLemmas.{ends_at, goes_again}
use Rattle.scfs_live.proofs.FrontLemmas.{front_passes}
use Rattle.scfs_live.proofs.LeavingLemmas.{whole_lines-front}
use Rattle.scfs_live.proofs.SplitLemmas.{split_whole}

-- with nothing left all was taken
nothing_more : (left' : Option (List ℕ)) (rest : List ℕ) → left' ≡ Some rest → IfSome left' (λ left. left ≡ []) → rest ≡ []
nothing_more None rest is none = cc
nothing_more (Some left) rest is none = let same : left ≡ rest = cc in sym same ∙ none

all_taken : (text taken : List ℕ) (left' : Option (List ℕ)) → Takes (Some text) left' taken → IfSome left' (λ left. left ≡ []) → taken ≡ text
all_taken text taken left' takes none =
    let rest : takes.0 ≡ [] = nothing_more left' takes.0 takes.1 none in
    sym (append-nil taken) ∙ ap (λ r. taken ++ r) (sym rest) ∙ sym takes.2

not_none : (o : Option Which) (which : Which) → o ≡ None → o ≡ Some which → ⊥
not_none o which none some = cc

module _ (allows : RankFacts → ℕ → Type 0) (header : Header) (past : History) (text : List ℕ) (left : IsLeftOf header past text) where
  -- all of it was run again
  goes_all : (taken : List ℕ) (place : Walk) → taken ≡ text → RunsAll allows header taken place → GoesAgain header past (whole_lines text) place
  goes_all taken place same runs =
      let lines : (old_lines taken).lines ≡ whole_lines text = split_whole journal_limit whichs.Journal taken runs.within ∙ ap whole_lines same in
      goes_again allows header past left.done left.plays (whole_lines text) left.left.0 place left.left.1
      (subst (λ ls. Walks header (unwalked header) ls place) lines runs.runs.walks)

  module _ (left' : Option (List ℕ)) (ends_then ends_now : ℕ) (earlier after : Option (List ℕ)) where
    reopened : (world : WorldState) → Reopens allows header (Some text) left' ends_then ends_now earlier after world → ReopensAgain allows header past text earlier after world
    reopened world r =
        let same = all_taken text r.taken left' r.reads.takes r.reads.nothing_left in
        record {
          place = r.place;
          plays = r.reads.runs.runs.plays;
          again = goes_all r.taken r.place same r.reads.runs;
          stands = r.stands;
          wrote = subst (λ t. Puts earlier after (missing (is_unfinished t) r.place.awaited)) same r.wrote;
        }

    unwritten : Unwritten allows header (Some text) left' ends_then ends_now earlier after → UnwrittenAgain allows header past text earlier after
    unwritten r =
        let same = all_taken text r.taken left' r.reads.takes r.reads.nothing_left in
        record {
          place = r.place;
          plays = r.reads.runs.runs.plays;
          again = goes_all r.taken r.place same r.reads.runs;
          wrote = subst (λ t. GetsPart earlier after (missing (is_unfinished t) r.place.awaited)) same r.wrote;
        }

    -- a front of it passes no limit either
    within_front : (taken rest : List ℕ) → text ≡ taken ++ rest → (old_lines taken).passed ≡ None
    within_front taken rest is = front_passes journal_limit whichs.Journal taken rest (ap (λ t. (old_lines t).passed) (sym is) ∙ left.within)

    -- a line of it ended the running again
    stopped : (taken : List ℕ) → Takes (Some text) left' taken → (end : LiveEnd) → StopsAt allows header taken end → after ≡ earlier
        → EndsLeft allows header past text earlier after end
    stopped taken takes end s nothing =
        let within = within_front taken takes.0 takes.2 in
        let front = whole_lines-front taken takes.0 in
        let parts : whole_lines text ≡ s.before ++ s.line ∷ (s.later ++ front.0) =
        ap whole_lines takes.2 ∙ front.1 ∙ ap (λ ls. ls ++ front.0) (sym (split_whole journal_limit whichs.Journal taken within) ∙ s.whole)
        ∙ append_assoc s.before (s.line ∷ s.later) front.0 in
        ends_at allows header past left.done left.plays text earlier after nothing s.before (s.later ++ front.0) s.line parts s.place s.runs.plays s.runs.walks
        left.left.0 end left.left.1 s.ends

    abbrev Stops : LiveEnd → Type 0
    Stops end = Unread allows header (Some text) left' earlier after end

    unread : (end : LiveEnd) → Stops end → EndsLeft allows header past text earlier after end
    unread (ends.TooLarge whichs.Journal) u =
        absurd (not_none (old_lines u.taken).passed whichs.Journal (within_front u.taken u.takes.0 u.takes.2) u.ends.passed)
    unread (ends.TooLarge whichs.Line) u =
        absurd (not_none (old_lines u.taken).passed whichs.Line (within_front u.taken u.takes.0 u.takes.2) u.ends.passed)
    unread (ends.ReadFault whichs.Journal) u = u.nothing
    unread ends.Memory u = u.nothing
    unread end u = stopped u.taken u.takes end u.ends u.nothing

    ended : (end : LiveEnd) → EndsReopening allows header (Some text) left' ends_then ends_now earlier after end → EndsLeft allows header past text earlier after end
    ended (ends.WriteFault whichs.Journal) e = unwritten e
    ended end e = unread end e

pub left_journals_reopen : (allows : RankFacts → ℕ → Type 0) → LeftJournalsReopen allows
left_journals_reopen allows = record {
  world = λ header past text left' ends_then ends_now before after world left r.
      reopened allows header past text left left' ends_then ends_now before after world r;
  end = λ header past text left' ends_then ends_now before after end left e.
      ended allows header past text left left' ends_then ends_now before after end e;
}
