use Rattle.std.specs.Prelude.{◌≡◌, ◌≤◌, ◌<◌, ℕ, List, [], ◌++◌, length, Option, IfSome}
use Rattle.scfs_base.specs.Outside.{Takes, Puts}
use Rattle.scfs_schedule.specs.Reading.{IsAtEvents, Reading, gives}
use Rattle.scfs_schedule.specs.declared.types.Header.{Header}
use Rattle.scfs_top.specs.declared.edges.PieceRead.{PieceRead}
use Rattle.scfs_top.specs.declared.edges.PieceRead.TheVariants as reads

-- where a sink tells, it got a front of this text
pub record GetsFront (before after : Option (List ℕ)) (text : List ℕ) : Type 0 where
  pub front : List ℕ
  pub back : List ℕ
  pub whole : text ≡ front ++ back
  pub puts : Puts before after front

-- what waited and this text are what a sink got, where it tells, and what waits now
pub record Passes (before after : Option (List ℕ)) (waiting waiting' text : List ℕ) : Type 0 where
  pub front : List ℕ
  pub whole : waiting ++ text ≡ front ++ waiting'
  pub puts : Puts before after front

-- a reader was fed these bytes and gave nothing: what it gives later it gave with them in front; its place is the same, and so is the
-- number of its line once it is at events
pub record Fed (old : Reading) (taken : List ℕ) (new : Reading) : Type 0 where
  pub same : (later : List ℕ) → gives old (taken ++ later) ≡ gives new later
  pub to : (h : Header) → IsAtEvents old h → IsAtEvents new h
  pub from : (h : Header) → IsAtEvents new h → IsAtEvents old h
  pub lines : (h : Header) → IsAtEvents old h → new.lines ≡ old.lines

-- one read: the bytes taken were fed, so many of them, at least one; at the end nothing is left; a failure takes nothing
abbrev pub TakesPiece : Option (List ℕ) → Option (List ℕ) → Reading → Reading → ℕ → PieceRead → Type 0
TakesPiece left left' old new room (reads.Took count) =
    (taken : List ℕ) × (length taken ≡ count) × (0 < count) × (count ≤ room) × Takes left left' taken × Fed old taken new
TakesPiece left left' old new room reads.End = (new ≡ old) × Takes left left' [] × IfSome left' (λ rest. rest ≡ [])
TakesPiece left left' old new room reads.Fault = (new ≡ old) × (left' ≡ left)
TakesPiece left left' old new room reads.Memory = (taken : List ℕ) × (length taken ≤ room) × Takes left left' taken
