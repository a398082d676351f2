use Rattle.std.proofs.Common.{◌∙◌}
use Rattle.scfs_stream.specs.Stream.{ciphered}
use Rattle.scfs_unit.proofs.SealLemmas.{as_many_shares, pieces_from}
use Rattle.scfs_unit.proofs.sealing.pieces_of.Goals as goal

pub paired-requires : goal.paired-requires
paired-requires c =
    as_many_shares c.args.f c.args.draw.now (ciphered c.args.draw.now.key c.args.contents.now) c.as_slice.result.now
    c.as_slice-2.result.now (c.as_slice.ensures ∙ c.in_ok-shares.ensures) (c.as_slice-2.ensures ∙ c.in_ok-blocks.ensures)

pub returns : goal.returns
returns c =
    pieces_from c.args.f c.args.draw.now c.args.contents.now c.as_slice.result.now c.as_slice-2.result.now c.in_ok-pieces.pieces
    (c.as_slice.ensures ∙ c.in_ok-shares.ensures) (c.as_slice-2.ensures ∙ c.in_ok-blocks.ensures) c.in_ok-pieces.ensures
