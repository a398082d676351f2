use Rattle.std.proofs.Common.{◌≡◌, ℕ, ◌<◌, length, take, get_or}
use Rattle.scfs_shamir.specs.declared.sharing.Share.{Share}
use Rattle.scfs_shamir.specs.Recovery.{bytes_at}
use Rattle.scfs_shamir.proofs.recovery.bytes_at.Given as goal

abbrev pub invariant-loop-at : goal.invariant-loop-at
invariant-loop-at l = record {
  four : length l.bytes ≡ 4;
  front : take l.at l.bytes ≡ take l.at (bytes_at l.shares l.place);
  long : (k : ℕ) (d : Share) → k < l.at → length (get_or l.shares k d).bytes ≡ 32;
}
