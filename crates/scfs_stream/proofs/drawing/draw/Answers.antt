use Rattle.std.proofs.Common.{◌≡◌, ℕ, ◌+◌, ◌*◌, ◌≤◌, List, [], ◌∷◌, take, drop, replicate, ap, ◌∙◌, arith}
use Rattle.std.specs.Prelude.{nat_le, if◌then◌else◌}
use Rattle.scfs_stream.specs.declared.sealing.Draw.{Draw}
use Rattle.scfs_stream.specs.Stream.{stream, stream_part}
use Rattle.scfs_stream.specs.Drawn.{drawn, drawn_row}
use Rattle.scfs_stream.proofs.StreamFacts.{part_of_stream}
use Rattle.scfs_stream.proofs.drawing.draw.Goals as goal

-- 32 bytes cut out of the stream's start
cut : (seed bytes : List ℕ) (from : ℕ) → from + 32 ≤ 128 → bytes ≡ stream seed 128
    → take 32 (drop from bytes) ≡ stream_part seed from 32
cut seed bytes from fits start = ap (λ xs. take 32 (drop from xs)) start ∙ part_of_stream seed from 128 32 fits

coefficients : (seed bytes row : List ℕ) (f power : ℕ) → 32 * power + 32 ≤ 128 → bytes ≡ stream seed 128
    → row ≡ (if nat_le power f then take 32 (drop (32 * power) bytes) else replicate 32 0)
    → row ≡ drawn_row seed f power
coefficients seed bytes row f power fits start is =
    is ∙ ap (λ part. if nat_le power f then part else replicate 32 0) (cut seed bytes (32 * power) fits start)

together : (seed key first second third : List ℕ) (f : ℕ) → key ≡ stream seed 32 → first ≡ drawn_row seed f 1
    → second ≡ drawn_row seed f 2 → third ≡ drawn_row seed f 3
    → ◌≡◌ {A = Draw} record { key = key; coefficients = record { rows = first ∷ second ∷ third ∷ [] } } (drawn seed f)
together seed key first second third f is_key is_first is_second is_third = cc

pub returns : goal.returns
returns c =
    let seed = c.args.seed.now in
    let bytes = c.stream_start-stream.result in
    let start = c.stream_start-stream.ensures in
    together seed c.part.result c.row.result c.row-2.result c.row-3.result c.args.f
    (c.part.ensures ∙ cut seed bytes 0 (omega arith) start)
    (coefficients seed bytes c.row.result c.args.f 1 (omega arith) start c.row.ensures)
    (coefficients seed bytes c.row-2.result c.args.f 2 (omega arith) start c.row-2.ensures)
    (coefficients seed bytes c.row-3.result c.args.f 3 (omega arith) start c.row-3.ensures)
