-- What a stopped call leaves is left of the journal of all its events.
use Rattle.std.proofs.Common.{ℕ, ap, ◌∙◌, ◌++◌, sym}
use Rattle.scfs_policy.specs.declared.rank.RankFacts.{RankFacts}
use Rattle.scfs_schedule.specs.declared.types.Header.{Header}
use Rattle.scfs_schedule.specs.declared.types.Which.TheVariants as whichs
use Rattle.scfs_model.specs.History.{History}
use Rattle.scfs_model.specs.UnitFormat.{under}
use Rattle.scfs_world.specs.Happening.{IsPlayed}
use Rattle.scfs_live.specs.GoingOn.{awaited_lines, kept_lines}
use Rattle.scfs_live.specs.Limits.{journal_limit}
use Rattle.scfs_live.specs.Reopened.{old_lines}
use Rattle.scfs_live.specs.RunAgain.{any_answer}
use Rattle.scfs_live.specs.Stopped.{StoppedCallsLeave}
use Rattle.scfs_live.proofs.DoneLemmas.{walked_are_done}
use Rattle.scfs_live.proofs.DrivenDoneLemmas.{driven_are_done}
use Rattle.scfs_live.proofs.KeptLemmas.{walked_are_kept}
use Rattle.scfs_live.proofs.LeavingLemmas.{stops_leave_journals}
use Rattle.scfs_live.proofs.PlayedLemmas.{any_ranked}
use Rattle.scfs_live.proofs.SplitLemmas.{split_whole}

played_by_any : (allows : RankFacts → ℕ → Type 0) (header : Header) (past : History) → IsPlayed allows header past → IsPlayed any_answer header past
played_by_any allows header past plays =
    record {
      happens = plays.happens;
      served = plays.served;
      ranked = any_ranked (under header) allows past plays.ranked;
      events = plays.events;
      carried = plays.carried;
    }

pub stopped_calls_leave : (allows : RankFacts → ℕ → Type 0) → StoppedCallsLeave allows
stopped_calls_leave allows header script place new old front back runs were is within =
    let lines = (old_lines old).lines in
    let whole = split_whole journal_limit whichs.Journal old runs.within in
    let kept = ap (λ ls. kept_lines ls ++ awaited_lines place.awaited) (sym whole) ∙ walked_are_kept header lines place runs.runs.walks in
    record {
      done = driven_are_done allows header script new place.past were (walked_are_done header lines place runs.runs.walks);
      plays = played_by_any allows header (new ++ place.past) were.plays;
      left = stops_leave_journals header place new old front back kept is;
      within = within;
    }
