use Rattle.std.proofs.Common.{◌≡◌, ◌<◌, ◌++◌, [], length, sym, ap, ◌∙◌, arith}
use Rattle.scfs_gf256.specs.Polynomials.{AreBytes}
use Rattle.scfs_erasure.specs.Rows.{row_at}
use Rattle.scfs_erasure.specs.Blocks.{numbers_of, bytes_of}
use Rattle.scfs_erasure.proofs.RowLemmas.{row_at-given}
use Rattle.scfs_erasure.proofs.BlockLemmas.{length-numbers_of, length-bytes_of, All-bytes_of}
use Rattle.scfs_erasure.proofs.combining.push_row.Goals as goal

pub returns-in_ok-extend_from_slice-in-Some-clause-row :
    goal.returns-in_ok-extend_from_slice-in-Some-clause-row
returns-in_ok-extend_from_slice-in-Some-clause-row c =
    let blocks = c.args.blocks.now in
    let numbers = numbers_of blocks in
    let rows = bytes_of blocks in
    let size = c.args.size in
    let found = c.in-Some.ensures in
    let place = found.0 in
    let same : c.in-Some.row.now ≡ row_at numbers rows size c.args.number =
    found.3
    ∙ row_at-given numbers rows size place c.requires.places c.requires.different
    (length-numbers_of blocks ∙ sym (length-bytes_of blocks))
    (All-bytes_of (λ row. length row ≡ size) blocks c.requires.long)
    (All-bytes_of AreBytes blocks c.are_bytes.ensures)
    (omega (arith, found.1, length-bytes_of blocks))
    ∙ ap (row_at numbers rows size) found.2 in
    c.in_ok-extend_from_slice-in-Some.ensures.items ∙ ap (λ row. c.args.bytes.now.items ++ row) same
