use Rattle.std.proofs.Common.{◌≡◌, ◌++◌, take, drop}
use Rattle.scfs_digest.specs.Hmac.{added}
use Rattle.scfs_digest.proofs.tags.add_pad.Given as goal

abbrev pub invariant-loop-byte : goal.invariant-loop-byte
invariant-loop-byte l =
    l.block ≡ added l.pad (take l.byte-index l.initial.block) ++ drop l.byte-index l.initial.block
