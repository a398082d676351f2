use Rattle.std.proofs.Common.{◌≡◌, ◌∙◌, sym, ap, subst, get_or, arith}
use Rattle.scfs_gf256.specs.Polynomials.{AreDistinct}
use Rattle.scfs_erasure.specs.Rows.{row_length}
use Rattle.scfs_erasure.specs.Blocks.{AreEnough}
use Rattle.scfs_shamir.specs.Recovery.{points_of}
use Rattle.scfs_stream.specs.Stream.{ciphered}
use Rattle.scfs_unit.specs.Unsealing.{length_of}
use Rattle.scfs_unit.proofs.UnsealLemmas.{AreDistinct-points, AreEnough-blocks_in, length_of-first, unsealed_from, unseal-some}
use Rattle.scfs_unit.proofs.opening.open_unit.Goals as goal

pub join-key-requires-clause-distinct : goal.join-key-requires-clause-distinct
join-key-requires-clause-distinct c =
    subst (λ shares. AreDistinct (points_of shares)) (sym (c.deref.ensures.value ∙ c.in_ok-shares.ensures))
    (AreDistinct-points c.args.pieces.now c.requires.enough.different)

pub decode-requires-clause-enough : goal.decode-requires-clause-enough
decode-requires-clause-enough c =
    let size : (get_or c.args.pieces.now 0 c.index-pieces-0.result).length ≡ length_of c.args.pieces.now =
    length_of-first c.args.pieces.now c.index-pieces-0.result (omega (arith, c.requires.enough.as_many)) in
    subst (λ size. AreEnough c.args.f (row_length c.args.f size) c.deref-2.result.now) (sym size)
    (subst (AreEnough c.args.f (row_length c.args.f (length_of c.args.pieces.now)))
    (sym (c.deref-2.ensures.value ∙ c.in_ok-blocks.ensures))
    (AreEnough-blocks_in c.args.f c.args.pieces.now c.requires.enough))

pub returns-clause-sealed : goal.returns-clause-sealed
returns-clause-sealed c draw contents is bytes some =
    unsealed_from c.args.f c.args.pieces.now c.deref.result.now c.deref-2.result.now
    (get_or c.args.pieces.now 0 c.index-pieces-0.result).length c.join-key.result c.in_ok-encrypted.encrypted
    c.in_ok-contents.contents (c.deref.ensures.value ∙ c.in_ok-shares.ensures) c.join-key.ensures.value
    (c.deref-2.ensures.value ∙ c.in_ok-blocks.ensures)
    (length_of-first c.args.pieces.now c.index-pieces-0.result (omega (arith, c.requires.enough.as_many)))
    c.in_ok-encrypted.ensures.contents (c.in_ok-contents.ensures ∙ ap (ciphered c.join-key.result) c.as_slice.ensures)
    ∙ unseal-some c.args.f draw contents c.args.pieces.now c.requires.high is bytes some
