use Rattle.std.proofs.Common.{◌≡◌, ◌++◌, length, map}
use Rattle.scfs_tuples.specs.After.{tuple_of}
use Rattle.scfs_tuples.specs.Filed.{tuples_of}
use Rattle.scfs_tuples.specs.Steps.{Lives}
use Rattle.scfs_tuples.proofs.acting.put_all.Given as goal

abbrev pub invariant-each : goal.invariant-each
invariant-each l = record {
  same : tuples_of l.initial.left ++ map (tuple_of l.now l.bound) l.puts ≡ tuples_of l.left ++ map (tuple_of l.now l.bound) l.rest;
  lives : Lives l.rest;
}

abbrev pub decreases-each : goal.decreases-each
decreases-each l = length l.rest
