use Rattle.std.proofs.Common.{◌≡◌, ◌≤◌, ◌<◌, ◌*◌, ◌+◌, ℕ, List, length, take, sym, ap, subst, ◌∙◌, arith, length-take}
use Rattle.scfs_erasure.specs.Rows.{piece}
use Rattle.scfs_erasure.specs.Blocks.{blocks_of}
use Rattle.scfs_bench.proofs.CodeLemmas.{how_many, bytes_at, piece_size, front_put}
use Rattle.scfs_bench.proofs.codes.put_last_block.Goals as goal

pub bounds-as_slice-from : goal.bounds-as_slice-from
bounds-as_slice-from c =
    let all : c.as_slice.result.now ≡ blocks_of c.args.f c.args.contents.now = c.as_slice.ensures ∙ c.in_ok-blocks.ensures in
    omega (arith, how_many c.args.f c.args.contents.now c.as_slice.result.now all, c.from.ensures)

pub front_of-requires : goal.front_of-requires
front_of-requires c =
    let f = c.args.f in
    let contents = c.args.contents.now in
    let all : c.as_slice.result.now ≡ blocks_of f contents = c.as_slice.ensures ∙ c.in_ok-blocks.ensures in
    let within : c.from.result * 3 < 3 * f + 1 = omega (arith, c.from.ensures) in
    let bytes : c.as_slice-2.result.now ≡ piece f contents (c.from.result * 3) =
    c.as_slice-2.ensures ∙ bytes_at f contents c.as_slice.result.now (c.from.result * 3) c.index-as_slice-from.result all within in
    subst (λ (bytes : List ℕ). 32 ≤ length bytes) (sym bytes) (piece_size f contents (c.from.result * 3) c.requires.faults c.requires.size)

pub put_front-requires : goal.put_front-requires
put_front-requires c =
    let size : length c.front_of.result.now ≤ 32 =
    subst (λ (bytes : List ℕ). length bytes ≤ 32) (sym c.front_of.ensures) (omega (arith, length-take 32 c.as_slice-2.result.now)) in
    omega (arith, size, c.requires.size)

pub returns : goal.returns
returns c =
    let f = c.args.f in
    let contents = c.args.contents.now in
    let all : c.as_slice.result.now ≡ blocks_of f contents = c.as_slice.ensures ∙ c.in_ok-blocks.ensures in
    let within : c.from.result * 3 < 3 * f + 1 = omega (arith, c.from.ensures) in
    let place : c.from.result * 3 ≡ 3 * f = omega (arith, c.from.ensures) in
    let bytes : c.as_slice-2.result.now ≡ piece f contents (3 * f) =
    c.as_slice-2.ensures ∙ bytes_at f contents c.as_slice.result.now (c.from.result * 3) c.index-as_slice-from.result all within
    ∙ ap (piece f contents) place in
    front_put f contents c.front_of.result.now c.put_front.new.bytes (c.front_of.ensures ∙ ap (take 32) bytes)
    (piece_size f contents (3 * f) c.requires.faults c.requires.size) c.put_front.ensures
