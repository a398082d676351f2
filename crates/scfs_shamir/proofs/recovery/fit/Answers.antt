use Rattle.std.proofs.Common.{◌≡◌, ℕ, List, [], ◌∷◌, sym, subst, ap, ap₂, arith}
use Rattle.std.specs.Prelude.{slice_index}
use Rattle.scfs_base.specs.declared.naming.Coefficients.{Coefficients}
use Rattle.scfs_gf256.proofs.Bytes.{Bytes-AreBytes, Bytes_from_places}
use Rattle.scfs_shamir.specs.Recovery.{IsRow, IsOnlySharing, fitted_polynomial}
use Rattle.scfs_shamir.proofs.RowLemmas.{each_byte_from}
use Rattle.scfs_shamir.proofs.FittedLemmas.{fitted_row, CanFit, fitted_is_only}
use Rattle.scfs_shamir.proofs.recovery.fit.Goals as goal

pub returns : goal.returns
returns c =
    let f = c.args.f in
    let shares = c.args.shares.now in
    let key = c.args.key.now in
    let loop = c.loop-place.invariant in
    let done = c.loop-place-test.false in
    let row : IsRow key = record {
      long = c.told-key;
      bytes = Bytes-AreBytes key (Bytes_from_places key (λ k l. c.fits-key k));
    } in
    let can : CanFit f shares key = record {
      low = c.requires.low;
      high = c.requires.high;
      count = c.requires.count;
      points = c.requires.points;
      long = loop.long (omega arith);
      row = row;
      fit = λ k l. loop.fit k (omega arith);
    } in
    let rule : ℕ → ℕ → ℕ = λ power place. slice_index (fitted_polynomial shares key place) power in
    let linear : c.loop-place.linear ≡ fitted_row shares key 1 =
    each_byte_from (rule 1) c.loop-place.linear loop.linear_long (λ k l. loop.linear k (omega arith)) in
    let quadratic : c.loop-place.quadratic ≡ fitted_row shares key 2 =
    each_byte_from (rule 2) c.loop-place.quadratic loop.quadratic_long (λ k l. loop.quadratic k (omega arith)) in
    let cubic : c.loop-place.cubic ≡ fitted_row shares key 3 =
    each_byte_from (rule 3) c.loop-place.cubic loop.cubic_long (λ k l. loop.cubic k (omega arith)) in
    let made : List (List ℕ) → Coefficients = λ rows. record { rows = rows } in
    let is_only : Coefficients → Type 0 = λ coefficients. IsOnlySharing f key shares coefficients in
    subst is_only
    (ap made (sym (ap₂ ◌∷◌ linear (ap₂ ◌∷◌ quadratic (ap (λ (last : List ℕ). last ∷ []) cubic)))))
    (fitted_is_only f shares key can)
