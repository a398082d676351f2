use Rattle.std.proofs.Common.{ap, ap₂, ◌∙◌, ◌++◌, map, length}
use Rattle.sha2.specs.Sha256.{sha256}
use Rattle.scfs_digest.specs.Texts.{root_text}
use Rattle.scfs_unit.specs.Unit.{piece_bytes, manifest_over}
use Rattle.scfs_unit.proofs.SealLemmas.{sealed_from}
use Rattle.scfs_unit.proofs.sealing.seal.Goals as goal

pub returns : goal.returns
returns c =
    sealed_from c.args.f c.args.draw.now c.args.contents.now c.in_ok-pieces.pieces c.in_ok-manifest.manifest c.root_digest.result
    c.content_digest.result c.in_ok-objects.objects c.in_ok-pieces.ensures
    (c.in_ok-manifest.ensures ∙ ap (manifest_over c.args.f (length c.args.contents.now)) c.as_slice.ensures)
    (c.root_digest.ensures ∙ ap (λ text. sha256 (root_text text)) c.as_slice-4.ensures) c.content_digest.ensures
    (c.in_ok-objects.ensures
    ∙ ap₂ (λ made pieces. map (λ piece. made ++ piece_bytes piece) pieces) c.as_slice-2.ensures c.as_slice-3.ensures)
