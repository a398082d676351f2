-- A call that nothing was read for, since memory was wanting before.
use Rattle.std.proofs.Common.{◌≡◌, ℕ, List, [], refl, Option, Some, None, arith, inl}
use Rattle.scfs_policy.specs.declared.rank.RankFacts.{RankFacts}
use Rattle.scfs_schedule.specs.declared.types.Header.{Header}
use Rattle.scfs_live.specs.Asked.{Told}
use Rattle.scfs_live.specs.declared.ending.LiveEnd.TheVariants as lives
use Rattle.scfs_top.specs.declared.closing.Filled.TheVariants as filleds
use Rattle.scfs_top.specs.declared.closing.Status.TheVariants as statuses
use Rattle.scfs_top.specs.declared.stopping.RunEnd.TheVariants as runs
use Rattle.scfs_top.specs.Dumping.{DumpsInput}
use Rattle.scfs_top.specs.Headline.{ReplaysInput}
use Rattle.scfs_top.specs.Outer.{SinkView, SourceView}
use Rattle.scfs_top.specs.Plays.{Known}
use Rattle.scfs_top.specs.Running.{RunsScript}
use Rattle.scfs_top.proofs.EdgeLemmas.{puts_nothing, takes_nothing}
use Rattle.scfs_top.proofs.PaceLemmas.{pace_nothing}
use Rattle.scfs_top.proofs.RunLemmas.{nothing_known}
use Rattle.scfs_top.proofs.ScriptLemmas.{nothing_kept}

-- a header that stands for none
no_header : Header
no_header = record { f = 1; lease = 1; stale = 0; agents = [] }

module _ (allows : RankFacts → ℕ → Type 0) (left written : Option (List ℕ)) (ends faults : ℕ) where
  -- so much is known
  unread : Known allows no_header []
  unread = nothing_known allows no_header

  pub replays_unread : ReplaysInput allows left left written written ends ends faults faults statuses.Memory
  replays_unread = record {
    filled = filleds.Open;
    replays = record {
      taken = [];
      takes = takes_nothing left;
      few = omega arith;
      full = λ is. cc;
      nothing_left = λ is. cc;
      replays = record {
        header = no_header;
        past = [];
        finish = None;
        stated = tt;
        ends = ([], refl);
        plays = unread.plays;
        held = unread.held;
        newest = unread.newest;
        safe = unread.safe;
        run = unread.run;
        wrote = record { front = []; back = []; whole = refl; puts = puts_nothing written };
        decided = refl;
        pace = pace_nothing written;
      };
    };
    ended = λ is. cc;
    failed = λ is. cc;
  }

  pub dumps_unread : DumpsInput allows left left written written ends ends faults faults statuses.Memory
  dumps_unread = record {
    filled = filleds.Open;
    taken = [];
    takes = takes_nothing left;
    few = omega arith;
    full = λ is. cc;
    nothing_left = λ is. cc;
    dumps = record {
      header = no_header;
      past = [];
      finish = None;
      stated = tt;
      ends = ([], refl);
      plays = unread.plays;
      held = unread.held;
      newest = unread.newest;
      safe = unread.safe;
      run = unread.run;
      mapped = λ is. cc;
      text = [];
      output = refl;
      wrote = record { front = []; back = []; whole = refl; puts = puts_nothing written };
      decided = refl;
      soon = let pace = pace_nothing written in record { early = pace.early; piece = pace.piece; whole = pace.whole; few = pace.few; goes_on = pace.goes_on };
    };
    ended = λ is. cc;
    failed = λ is. cc;
  }

-- nothing of a script was read, and nothing else was touched
pub runs_unread : (allows : RankFacts → ℕ → Type 0) (input old : SourceView) (out journal : SinkView) (clouds : List Told) →
    RunsScript allows input input old old out out.written journal journal clouds clouds statuses.Memory
runs_unread allows input old out journal clouds = record {
  end = runs.Stopped lives.Memory;
  shown = out;
  runs = record {
    taken = [];
    reads = record { takes = takes_nothing input.left; few = omega arith; full = λ is. cc; nothing_left = λ is. cc; ended = λ is. cc; failed = λ is. cc };
    comes = inl (record { ends = tt; pace = nothing_kept; old_stays = refl; out_stays = refl; journal_stays = refl; clouds_stay = refl });
  };
  closes = (refl, refl);
}
