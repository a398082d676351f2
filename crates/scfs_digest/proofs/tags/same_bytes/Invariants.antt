use Rattle.std.proofs.Common.{◌≡◌, ℕ, ◌<◌, ◌↔◌, get_or}
use Rattle.scfs_digest.proofs.tags.same_bytes.Given as goal

abbrev pub invariant-loop-i : goal.invariant-loop-i
invariant-loop-i l = (l.different ≡ 0) ↔ ((k : ℕ) → k < l.i → get_or l.ours k 0 ≡ get_or l.theirs k 0)
