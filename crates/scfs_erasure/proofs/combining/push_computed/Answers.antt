use Rattle.std.proofs.Common.{◌≡◌, ℕ, ◌+◌, ◌-◌, ◌++◌, List, length, replicate, sym, ap, ap₂, ◌∙◌, arith}
use Rattle.scfs_gf256.specs.Rows.{add_multiples}
use Rattle.scfs_gf256.specs.Interpolation.{lagrange_factors}
use Rattle.scfs_erasure.specs.Rows.{row_at}
use Rattle.scfs_erasure.specs.Blocks.{numbers_of, bytes_of}
use Rattle.scfs_erasure.proofs.RowLemmas.{row_at-interpolated, length-row_at}
use Rattle.scfs_erasure.proofs.BlockLemmas.{length-numbers_of, length-bytes_of, All-bytes_of}
use Rattle.scfs_erasure.proofs.RowsBehind.{longer, put_behind, zeros_behind}
use Rattle.scfs_erasure.proofs.combining.push_computed.Goals as goal

pub returns : goal.returns
returns c =
    let blocks = c.args.blocks.now in
    let numbers = numbers_of blocks in
    let rows = bytes_of blocks in
    let size = c.args.size in
    let old = c.args.bytes.now.items in
    let whole = c.deref_mut.result.now in
    let start = c.len-start.result in
    let place : start ≡ length old = omega arith in
    let is : whole ≡ old ++ replicate size 0 =
    c.deref_mut.ensures.value
    ∙ longer old c.resize.new.self.items (start + size) size c.args.bytes.now.len (omega arith) (omega arith) c.in_ok-resize.ensures.items in
    let part = length whole - start in
    let factored : c.deref.result.now ≡ numbers = c.deref.ensures.value ∙ c.in_ok-numbers.ensures in
    let row : c.add_rows.new.into ≡ row_at numbers rows size c.args.number =
    c.add_rows.ensures
    ∙ ap₂ (λ (from places : List ℕ). add_multiples from (lagrange_factors places c.args.number) rows)
    (zeros_behind old whole start size place is part (omega arith)) factored
    ∙ row_at-interpolated numbers rows size c.args.number
    (length-numbers_of blocks ∙ sym (length-bytes_of blocks))
    (All-bytes_of (λ row. length row ≡ size) blocks c.requires.long) in
    put_behind old whole start size place is c.add_rows.new.into (row_at numbers rows size c.args.number) _ part
    c.resize.new.self.len row (ap length row ∙ length-row_at numbers rows size c.args.number) (omega (arith, c.in_ok-resize.ensures.len))
