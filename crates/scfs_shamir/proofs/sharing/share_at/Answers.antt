use Rattle.std.proofs.Common.{List, ℕ, ap}
use Rattle.scfs_shamir.specs.Shares.{share_byte}
use Rattle.scfs_shamir.specs.declared.sharing.Share.{Share}
use Rattle.scfs_shamir.proofs.RowLemmas.{each_byte_from}
use Rattle.scfs_shamir.proofs.sharing.share_at.Goals as goal

pub returns : goal.returns
returns c =
    let rule = share_byte c.args.f c.args.key.now c.args.coefficients.now c.args.point in
    let made = c.share_bytes.ensures in
    let share : List ℕ → Share = λ bytes. record { point = c.args.point; bytes = bytes } in
    ap share (each_byte_from rule c.share_bytes.result made.long made.bytes)
