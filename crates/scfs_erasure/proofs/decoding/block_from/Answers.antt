use Rattle.std.proofs.Common.{◌≡◌, ℕ, List, ◌++◌, ap, sym, ◌∙◌, arith}
use Rattle.scfs_erasure.specs.Rows.{row_at}
use Rattle.scfs_erasure.specs.Blocks.{numbers_of, bytes_of, size_of}
use Rattle.scfs_erasure.proofs.BlockLemmas.{piece_of_rows-rows_from, AreOnlyRows-rows_from, AreBytes-numbers_of}
use Rattle.scfs_erasure.proofs.decoding.block_from.Goals as goal

pub push_row-requires-clause-places : goal.push_row-requires-clause-places
push_row-requires-clause-places c =
    AreBytes-numbers_of c.args.f (size_of c.args.blocks.now) c.args.blocks.now (omega arith) c.requires.enough

pub returns-clause-rows : goal.returns-clause-rows
returns-clause-rows c =
    let blocks = c.args.blocks.now in
    AreOnlyRows-rows_from c.args.f (size_of blocks) blocks (omega arith) c.requires.enough c.in_ok-push_row.ensures.bytes

pub returns-clause-bytes : goal.returns-clause-bytes
returns-clause-bytes c =
    let blocks = c.args.blocks.now in
    let first = c.index-blocks-0.result in
    let size : c.len-size.result ≡ size_of blocks =
    c.len-size.ensures
    ∙ c.requires.enough.long 0 first (omega (arith, c.requires.enough.as_many)) in
    c.from_vec-bytes.ensures ∙ c.in_ok-push_row.ensures.row
    ∙ ap (λ (xs : List ℕ). xs ++ row_at (numbers_of blocks) (bytes_of blocks) c.len-size.result c.args.number) c.in_ok-row.ensures.items
    ∙ ap (λ size. row_at (numbers_of blocks) (bytes_of blocks) size c.args.number) size
    ∙ sym (piece_of_rows-rows_from c.args.f (size_of blocks) blocks c.args.number (omega arith) c.requires.enough)
