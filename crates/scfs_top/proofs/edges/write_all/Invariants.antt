use Rattle.std.proofs.Common.{◌≡◌, ◌≤◌, ◌++◌, List, ℕ, length}
use Rattle.scfs_base.specs.Outside.{Puts}
use Rattle.scfs_top.proofs.edges.write_all.Given as goal

abbrev pub invariant-pieces : goal.invariant-pieces
invariant-pieces g l =
    let written = g.O.Sink.written in
    record {
      written : (front : List ℕ) × (l.piece ≡ front ++ l.rest) × Puts (written l.initial.out) (written l.out) front;
      later : g.O.Sink.faults l.initial.out ≤ g.O.Sink.faults l.out;
    }

abbrev pub decreases-pieces : goal.decreases-pieces
decreases-pieces g l = length l.rest
