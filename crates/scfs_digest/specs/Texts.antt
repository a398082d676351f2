-- The texts that are digested: a prefix byte for each purpose, and then what the digest stands for.
use Rattle.std.specs.Prelude.{◌≡◌, ◌≢◌, ◌<◌, ◌^◌, ℕ, List, [], ◌∷◌, ◌++◌, length}
use Rattle.std.specs.Int.{bytes_high_first}
use Rattle.scfs_base.specs.declared.UploadNo.{UploadNo}

-- a unit's manifest
abbrev pub root_text : List ℕ → List ℕ
root_text manifest = 0 ∷ manifest

-- the piece of a unit that is put on a cloud
abbrev pub block_text : ℕ → List ℕ → List ℕ
block_text cloud piece = 1 ∷ cloud ∷ piece

-- a file's contents
abbrev pub content_text : List ℕ → List ℕ
content_text contents = 2 ∷ contents

-- an agent's secret seed and an upload's number, in one byte, three and four, each with the highest byte first
abbrev pub draw_text : List ℕ → UploadNo → List ℕ
draw_text seed upload =
    3 ∷ seed ++ upload.agent ∷ bytes_high_first 3 upload.incarnation ++ bytes_high_first 4 upload.count

-- an agent's secret seed and its number
abbrev pub record_key_text : List ℕ → ℕ → List ℕ
record_key_text seed agent = 4 ∷ seed ++ agent ∷ []

-- what is digested under a prefix byte
pub data Subject : Type 0 where
  Manifest : (manifest : List ℕ) → Subject
  Piece : (cloud : ℕ) (piece : List ℕ) → Subject
  Contents : (contents : List ℕ) → Subject
  Drawing : (seed : List ℕ) (upload : UploadNo) → Subject
  RecordKey : (seed : List ℕ) (agent : ℕ) → Subject

-- the text that is digested for it
abbrev pub text_of : Subject → List ℕ
text_of (Manifest manifest) = root_text manifest
text_of (Piece cloud piece) = block_text cloud piece
text_of (Contents contents) = content_text contents
text_of (Drawing seed upload) = draw_text seed upload
text_of (RecordKey seed agent) = record_key_text seed agent

-- the prefix byte under which it is digested
abbrev pub prefix_of : Subject → ℕ
prefix_of (Manifest manifest) = 0
prefix_of (Piece cloud piece) = 1
prefix_of (Contents contents) = 2
prefix_of (Drawing seed upload) = 3
prefix_of (RecordKey seed agent) = 4

-- a seed has 32 bytes, and the parts of an upload's number have their widths
abbrev pub IsInRange : Subject → Type 0
IsInRange (Manifest manifest) = Unit {0}
IsInRange (Piece cloud piece) = Unit {0}
IsInRange (Contents contents) = Unit {0}
IsInRange (Drawing seed upload) =
    (length seed ≡ 32) × (upload.incarnation < 2 ^ 24) × (upload.count < 2 ^ 32)
IsInRange (RecordKey seed agent) = length seed ≡ 32

-- texts under different prefix bytes differ
abbrev pub PrefixesTellApart : Type 0
PrefixesTellApart = (a b : Subject) → prefix_of a ≢ prefix_of b → text_of a ≢ text_of b

-- each text is that of one subject alone: under one prefix byte different arguments give different texts
abbrev pub TextsTellApart : Type 0
TextsTellApart = (a b : Subject) → IsInRange a → IsInRange b → text_of a ≡ text_of b → a ≡ b
