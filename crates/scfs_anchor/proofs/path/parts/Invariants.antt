use Rattle.std.proofs.Common.{◌≡◌, ◌++◌, length}
use Rattle.scfs_base.specs.Pieces.{pieces}
use Rattle.scfs_anchor.proofs.path.parts.Given as goal

abbrev pub invariant-loop-part : goal.invariant-loop-part
invariant-loop-part l = l.parts ++ pieces 47 l.rest ≡ pieces 47 l.text

abbrev pub decreases-loop-part : goal.decreases-loop-part
decreases-loop-part l = length l.rest
