use Rattle.std.proofs.Common.{sym, ◌∙◌, ap, drop, Ok}
use Rattle.scfs_unit.proofs.CheckingLemmas.{checked_length, checked_magic, checked_root, checked_piece, checked_all, piece_of_parts}
use Rattle.scfs_unit.proofs.checking.check_object.Goals as goal

pub returns-then-not-has_length-clause-answer : goal.returns-then-not-has_length-clause-answer
returns-then-not-has_length-clause-answer c =
    checked_length c.args.f c.args.cloud c.args.root.now c.args.bytes.now (sym c.if-not-has_length.ensures.test)

pub returns-then-not-has_magic-clause-answer : goal.returns-then-not-has_magic-clause-answer
returns-then-not-has_magic-clause-answer c =
    checked_magic c.args.f c.args.cloud c.args.root.now c.args.bytes.now (sym c.if-not-has_length.ensures.test)
    (sym c.if-not-has_magic.ensures)

pub returns-then-not-has_root-clause-answer : goal.returns-then-not-has_root-clause-answer
returns-then-not-has_root-clause-answer c =
    checked_root c.args.f c.args.cloud c.args.root.now c.args.bytes.now (sym c.if-not-has_length.ensures.test)
    (sym c.if-not-has_magic.ensures) (sym c.if-not-has_root.ensures)

pub returns-then-not-has_piece-clause-answer : goal.returns-then-not-has_piece-clause-answer
returns-then-not-has_piece-clause-answer c =
    checked_piece c.args.f c.args.cloud c.args.root.now c.args.bytes.now (sym c.if-not-has_length.ensures.test)
    (sym c.if-not-has_magic.ensures) (sym c.if-not-has_root.ensures) (sym c.if-not-has_piece.ensures)

pub returns-clause-answer : goal.returns-clause-answer
returns-clause-answer c =
    checked_all c.args.f c.args.cloud c.args.root.now c.args.bytes.now (sym c.if-not-has_length.ensures.test)
    (sym c.if-not-has_magic.ensures) (sym c.if-not-has_root.ensures) (sym c.if-not-has_piece.ensures)
    ∙ ap Ok (piece_of_parts c.args.f c.args.cloud c.length_in.result c.args.bytes.now c.split_at.result.1.now c.part.result
    c.split_at-2.result.1.now c.length_in.ensures
    (c.split_at.ensures.back ∙ ap (λ n. drop n c.args.bytes.now) c.manifest_length.ensures)
    c.part.ensures c.split_at-2.ensures.back)
