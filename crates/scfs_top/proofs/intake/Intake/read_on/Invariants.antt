use Rattle.scfs_top.specs.declared.closing.Filled.TheVariants as filleds
use Rattle.scfs_top.specs.Giving.{Tells}
use Rattle.scfs_top.proofs.GivingLemmas.{FedSoFar}
use Rattle.scfs_top.proofs.intake.Intake.read_on.Given as goal

abbrev pub invariant-reads : goal.invariant-reads
invariant-reads g l =
    let s = g.I.Source in
    record {
      so_far : FedSoFar (s.left l.initial.input) (s.left l.input) l.initial.self l.self.reader l.self.room;
      tells : Tells (s.ends l.initial.input) (s.ends l.input) (s.faults l.initial.input) (s.faults l.input) filleds.Open;
    }

abbrev pub decreases-reads : goal.decreases-reads
decreases-reads g l = l.self.room
