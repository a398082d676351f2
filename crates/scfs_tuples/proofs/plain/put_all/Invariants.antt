use Rattle.std.proofs.Common.{◌≡◌, ◌++◌, length, map}
use Rattle.scfs_tuples.specs.After.{tuple_of}
use Rattle.scfs_tuples.specs.Steps.{Lives}
use Rattle.scfs_tuples.proofs.plain.put_all.Given as goal

abbrev pub invariant-each : goal.invariant-each
invariant-each l = record {
  same : l.initial.tuples ++ map (tuple_of l.now l.bound) l.puts ≡ l.tuples ++ map (tuple_of l.now l.bound) l.rest;
  lives : Lives l.rest;
}

abbrev pub decreases-each : goal.decreases-each
decreases-each l = length l.rest
