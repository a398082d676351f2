-- The blocks whose digests tell objects apart, and that no two of them share a digest.
use Rattle.std.specs.Prelude.{◌≡◌, ℕ, ◌+◌, List, [], ◌∷◌, length, map, nat_le, if◌then◌else◌}
use Rattle.std.specs.List.{Contains}
use Rattle.sha2.specs.Sha256.{sha256}
use Rattle.scfs_digest.specs.Texts.{root_text, block_text, content_text}
use Rattle.scfs_stream.specs.declared.sealing.Draw.{Draw}
use Rattle.scfs_unit.specs.Unit.{manifest, unit_pieces, piece_text}
use Rattle.scfs_unit.specs.Checking.{manifest_size, manifest_in, rest_in}

-- the blocks of a seal: what is digested of its manifest, of each of its pieces, and of its contents
abbrev pub blocks_of_seal : ℕ → Draw → List ℕ → List (List ℕ)
blocks_of_seal f draw contents =
    root_text (manifest f draw contents) ∷ content_text contents ∷ map piece_text (unit_pieces f draw contents)

-- the blocks of bytes that a cloud answers: where there is room for manifest and share, what is digested of them
abbrev pub blocks_of_answer : ℕ → ℕ → List ℕ → List (List ℕ)
blocks_of_answer f cloud bytes =
    if nat_le (manifest_size f + 32) (length bytes)
    then root_text (manifest_in f bytes) ∷ block_text cloud (rest_in f bytes) ∷ []
    else []

-- no two different blocks share a digest: of blocks with one digest each is the other
abbrev pub NoClash : List (List ℕ) → Type 0
NoClash blocks =
    (a b : List ℕ) → Contains blocks a → Contains blocks b → sha256 a ≡ sha256 b → a ≡ b
