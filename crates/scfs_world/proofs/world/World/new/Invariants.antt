use Rattle.std.proofs.Common.{◌≡◌}
use Rattle.scfs_world.proofs.NewLemmas.{new_seats}
use Rattle.scfs_world.proofs.world.World.new.Given as goal

abbrev pub invariant-loop-no : goal.invariant-loop-no
invariant-loop-no l = l.seats.items ≡ new_seats l.header l.no
