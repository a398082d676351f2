use Rattle.scfs_unit.proofs.AcceptanceLemmas.{checked-object, object_only, IsPiece-checked}
use Rattle.scfs_unit.proofs.laws.acceptance_laws.Goals as goal

pub returns : goal.returns
returns c = record { objects = checked-object; only = object_only; pieces = IsPiece-checked }
