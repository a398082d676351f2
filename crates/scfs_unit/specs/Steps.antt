-- What the steps of a seal make.
use Rattle.std.specs.Prelude.{ℕ, List, [], ◌∷◌}
use Rattle.scfs_erasure.specs.declared.block.Block.{Block}
use Rattle.scfs_shamir.specs.declared.sharing.Share.{Share}
use Rattle.scfs_unit.specs.declared.pieces.KeptPiece.{KeptPiece}
use Rattle.scfs_unit.specs.Checking.{kept}

-- the piece of each block, with the share at the same place
abbrev pub paired : ℕ → List Share → List Block → List KeptPiece
paired size shares [] = []
paired size [] (block ∷ blocks) = []
paired size (share ∷ shares) (block ∷ blocks) =
    kept block.number size share block.bytes ∷ paired size shares blocks
