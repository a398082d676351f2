-- How far reading may be ahead of writing.
use Rattle.std.specs.Prelude.{◌≡◌, ◌≤◌, ℕ, List, [], ◌++◌, false, length, Option}
use Rattle.scfs_base.specs.Outside.{Puts}
use Rattle.scfs_schedule.specs.Reading.{read, unfinished}
use Rattle.scfs_model.specs.History.{History, events_then, transcript}
use Rattle.scfs_top.specs.declared.closing.Finish.TheVariants as finishes
use Rattle.scfs_top.specs.Playing.{Playing, played}

-- how many bytes are read at a time, and how many of lines that wait are written at the latest
abbrev pub piece_limit : ℕ
piece_limit = 65536

-- nothing that was read ends what is played: the last line is not whole yet
abbrev pub IsUnfinished : Playing → Type 0
IsUnfinished playing = (line : ℕ) × (playing.finish ≡ finishes.Text (unfinished false line))

-- where out tells, it got at least this text
abbrev pub GetsAtLeast : Option (List ℕ) → Option (List ℕ) → List ℕ → Type 0
GetsAtLeast before after text = (more : List ℕ) × Puts before after (text ++ more)

-- Reading keeps pace with writing: the bytes taken are early ones and at most one piece. No line of the early ones ends what is played,
-- and out got all lines of their events, which are done. So at most a piece was taken behind the line of the first event whose lines
-- are not all out, and behind the line at which the run stopped.
pub record KeepsPace (past : History) (taken : List ℕ) (before after : Option (List ℕ)) : Type 0 where
  pub early : List ℕ
  pub piece : List ℕ
  pub whole : taken ≡ early ++ piece
  pub few : length piece ≤ piece_limit
  pub done : History
  pub later : History
  pub first : past ≡ later ++ done
  pub events : (played (read false early)).events ≡ events_then done []
  pub goes_on : IsUnfinished (played (read false early))
  pub out : GetsAtLeast before after (transcript done)
