use Rattle.std.proofs.Common.{◌≡◌, ℕ, ◌+◌, ◌*◌, ◌≤◌, List, ◌++◌, length, take, ap, sym, ◌∙◌, arith, mul-le-mul_right}
use Rattle.std.proofs.lemmas.List.{length-append}
use Rattle.scfs_erasure.specs.Rows.{row_length, row_at}
use Rattle.scfs_erasure.specs.Blocks.{numbers_of, bytes_of}
use Rattle.scfs_erasure.proofs.RowLemmas.{length-row_at}
use Rattle.scfs_erasure.proofs.BlockLemmas.{AreOnlyRows-rows_from, AreBytes-numbers_of, joined-rows_from}
use Rattle.scfs_erasure.proofs.ContentLemmas.{concat-rows_more}
use Rattle.scfs_erasure.proofs.decoding.decode.Goals as goal

pub push_row-requires-clause-places : goal.push_row-requires-clause-places
push_row-requires-clause-places c =
    AreBytes-numbers_of c.args.f (row_length c.args.f c.args.length) c.args.blocks.now (omega arith) c.requires.enough

pub push_row-requires-clause-room : goal.push_row-requires-clause-room
push_row-requires-clause-room c =
    let few : c.loop-number.number ≤ 3 = omega arith in
    let size = c.block_length-size.result in
    let before : c.loop-number.number * size ≤ 3 * size = mul-le-mul_right size few in
    omega (arith, before, c.loop-number.invariant.long)

pub loop-number-preserved : goal.loop-number-preserved
loop-number-preserved c =
    let size = c.block_length-size.result in
    let row = row_at (numbers_of c.args.blocks.now) (bytes_of c.args.blocks.now) size in
    let number = c.loop-number.number in
    let before = c.loop-number.contents.items in
    let after : number * size + size ≡ (number + 1) * size = omega arith in
    record {
      bytes = λ _. c.in_ok-push_row.ensures.bytes;
      long =
          ap length c.in_ok-push_row.ensures.row ∙ length-append before (row number)
          ∙ ap (λ n. length before + n) (length-row_at (numbers_of c.args.blocks.now) (bytes_of c.args.blocks.now) size number)
          ∙ ap (λ n. n + size) c.loop-number.invariant.long ∙ after;
      joined =
          c.in_ok-push_row.ensures.row ∙ ap (λ (xs : List ℕ). xs ++ row number) c.loop-number.invariant.joined
          ∙ sym (concat-rows_more row number);
    }

pub returns-clause-rows : goal.returns-clause-rows
returns-clause-rows c =
    let blocks = c.args.blocks.now in
    AreOnlyRows-rows_from c.args.f (row_length c.args.f c.args.length) blocks (omega arith) c.requires.enough
    (c.loop-number.invariant.bytes (omega arith))

pub returns-clause-contents : goal.returns-clause-contents
returns-clause-contents c =
    c.from_vec.ensures
    ∙ c.truncate.ensures.items
    ∙ ap (take c.args.length)
    (c.loop-number.invariant.joined
    ∙ joined-rows_from c.args.f c.block_length-size.result (row_length c.args.f c.args.length) c.loop-number.number
    c.args.blocks.now c.block_length-size.ensures (omega arith))
