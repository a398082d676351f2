-- A tracker, and what answers and turns do to it.
use Rattle.std.specs.Prelude.{◌≡◌, ℕ, ◌+◌, ◌-◌, ◌*◌, ◌<◌, ◌≤◌, List, [], ◌∷◌, ◌++◌, length, take, ◌==◌, nat_lt, if◌then◌else◌, Option, Some, None, option_map}
use Rattle.std.specs.Option.{option_to_list}
use Rattle.scfs_base.specs.declared.cloud.CloudAnswer.{CloudAnswer}
use Rattle.std.specs.List.{All}
use Rattle.scfs_gf256.specs.Polynomials.{AreDistinct}
use Rattle.scfs_unit.specs.declared.pieces.KeptPiece.{KeptPiece}
use Rattle.scfs_unit.specs.Checking.{IsPiece}
use Rattle.scfs_unit.specs.Unsealing.{clouds_of, unseal}
use Rattle.scfs_quorum_read.specs.declared.steps.ReadStep.{ReadStep}
use Rattle.scfs_quorum_read.specs.declared.steps.ReadStep.TheVariants.{Ask, Wait, Whole}
use Rattle.scfs_quorum_read.specs.declared.steps.TurnStep.{TurnStep}
use Rattle.scfs_quorum_read.specs.declared.steps.TurnStep.TheVariants.{Again, Spent}
use Rattle.scfs_quorum_read.specs.Reading.{Reading, good_piece, is_among, first_unasked, asking}

-- the step of a turn when so many are left, and so many clouds are good
abbrev pub ends_at : Option ℕ → ℕ → TurnStep
ends_at None good = Again
ends_at (Some left) good = if nat_lt 1 left then Again else Spent good

-- a tracker: what is read, the clouds that were asked, the first good piece of each cloud, and the turns that are left
pub record Tracker : Type 0 where
  pub reading : Reading
  pub asked : List ℕ
  pub pieces : List KeptPiece
  pub left : Option ℕ

-- at first the first f + 1 clouds are asked
abbrev pub begun : Reading → Tracker
begun reading = record { reading = reading; asked = take (reading.f + 1) reading.order; pieces = []; left = reading.turns }

-- what keeping a piece brings: the contents, if there are f+1 pieces now
abbrev pub kept_step : ℕ → List KeptPiece → ReadStep
kept_step f pieces = if length pieces == f + 1 then Whole (unseal f pieces) else Wait

-- what something told comes to: the tracker afterwards, and what is to be done
pub record Heard : Type 0 where
  pub after : Tracker
  pub step : ReadStep

-- a bad answer: the next cloud of the order is asked, if there is one
abbrev pub bad_heard : Tracker → Heard
bad_heard t =
    let next = first_unasked t.reading.order t.asked in
    record { after = record t { asked = t.asked ++ option_to_list next }; step = asking next }

-- a good piece, kept behind those before: with f others there are the contents
abbrev pub good_heard : Tracker → KeptPiece → Heard
good_heard t piece =
    let pieces = t.pieces ++ piece ∷ [] in record { after = record t { pieces = pieces }; step = kept_step t.reading.f pieces }

abbrev pub piece_heard : Tracker → Option KeptPiece → Heard
piece_heard t None = bad_heard t
piece_heard t (Some piece) = good_heard t piece

-- an answer of a cloud: one of a cloud that was good already comes to nothing
abbrev pub heard : Tracker → ℕ → CloudAnswer → Heard
heard t cloud answer =
    if is_among cloud t.pieces then record { after = t; step = Wait } else piece_heard t (good_piece t.reading cloud answer)

-- a turn: all clouds are asked, and one turn less is left
abbrev pub turn_taken : Tracker → Tracker
turn_taken t = record t { asked = t.reading.order; left = option_map (λ n. n - 1) t.left }

-- what is to be done at a turn: the last one ends the reading, with so many good clouds
abbrev pub turn_comes_to : Tracker → TurnStep
turn_comes_to t = ends_at t.left (length t.pieces)

-- how many good pieces there are after a step: f+1 with the contents, and fewer otherwise
abbrev pub LeavesOpen : ReadStep → Tracker → Type 0
LeavesOpen (Ask cloud) tracker = length tracker.pieces ≤ tracker.reading.f
LeavesOpen Wait tracker = length tracker.pieces ≤ tracker.reading.f
LeavesOpen (Whole contents) tracker = length tracker.pieces ≡ tracker.reading.f + 1

-- each of the 3f+1 clouds once
pub record IsOrder (f : ℕ) (order : List ℕ) : Type 0 where
  pub as_many : length order ≡ 3 * f + 1
  pub different : AreDistinct order
  pub below : All (λ cloud. cloud < 3 * f + 1) order

-- pieces of different clouds, each by its form and of this length
pub record AreGood (f size : ℕ) (pieces : List KeptPiece) : Type 0 where
  pub different : AreDistinct (clouds_of pieces)
  pub each : All (IsPiece f) pieces
  pub long : All (λ piece. piece.length ≡ size) pieces

-- what holds of every tracker: f is from 1 to 3, there are at most 1,048,576 bytes, and at most f+1 good pieces
pub record IsTracker (f size : ℕ) (clouds : List ℕ) (count : ℕ) (good : List KeptPiece) : Type 0 where
  pub low : 1 ≤ f
  pub high : f ≤ 3
  pub small : size ≤ 1048576
  pub order : IsOrder f clouds
  pub asked : count ≤ length clouds
  pub few : length good ≤ f + 1
  pub pieces : AreGood f size good
