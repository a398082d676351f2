use Rattle.std.proofs.Common.{◌≡◌, ◌+◌, ◌<◌, ℕ, [], length, drop, get_or, below_more, subst, ap, sym, ◌∙◌, arith}
use Rattle.std.proofs.lemmas.List.{get_or-map, get_or_default, length-map}
use Rattle.scfs_gf256.specs.Field.{times}
use Rattle.scfs_gf256.specs.Rows.{row_sum, scaled, add_multiples}
use Rattle.scfs_gf256.specs.Interpolation.{lagrange_factors}
use Rattle.scfs_gf256.proofs.Bytes.{Bytes-AreBytes, Bytes_from_places, length-row_sum}
use Rattle.scfs_gf256.proofs.Fitting.{length-lagrange_factors}
use Rattle.scfs_gf256.proofs.RowLaws.{add_multiples-turn, add_multiples-end}
use Rattle.scfs_shamir.specs.declared.sharing.Share.{Share}
use Rattle.scfs_shamir.specs.Recovery.{IsRow}
use Rattle.scfs_shamir.proofs.JoinLemmas.{rows_of}
use Rattle.scfs_shamir.proofs.recovery.joined.Goals as goal

pub loop-place-preserved : goal.loop-place-preserved
loop-place-preserved c =
    let shares = c.args.shares.now in
    let points = c.args.points.now in
    let factors = lagrange_factors points 0 in
    let place = c.loop-place.place in
    let key = c.loop-place.key in
    let nobody : Share = record { point = 0; bytes = [] } in
    let share = get_or shares place nobody in
    let factor = c.factor_at-factor.result in
    let within : place < length shares = omega arith in
    let as_many : length factors ≡ length shares =
    length-lagrange_factors points 0 ∙ ap length c.requires.points ∙ length-map shares (λ (share : Share). share.point) in
    let row : IsRow share.bytes = c.add_share.ensures.row in
    let same : length key ≡ length (scaled factor share.bytes) =
    c.loop-place.invariant.long ∙ sym row.long ∙ sym (length-map share.bytes (times factor)) in
    record {
      long = ap length c.add_share.ensures.sum ∙ length-row_sum key (scaled factor share.bytes) same ∙ c.loop-place.invariant.long;
      rows =
          below_more (λ k. (other : Share) → IsRow (get_or shares k other).bytes) place
          c.loop-place.invariant.rows
          (λ other. subst (λ (share : Share). IsRow share.bytes)
          (get_or_default shares place nobody other within) row);
      sums =
          ap (λ r. add_multiples r (drop (place + 1) factors) (drop (place + 1) (rows_of shares))) c.add_share.ensures.sum
          ∙ add_multiples-turn key factors (rows_of shares) place factor share.bytes (omega arith)
          (omega (arith, length-map shares (λ (share : Share). share.bytes)))
          c.factor_at-factor.ensures
          (sym (get_or-map (λ (share : Share). share.bytes) shares place nobody [] within))
          ∙ c.loop-place.invariant.sums;
    }

pub returns-clause-points : goal.returns-clause-points
returns-clause-points c =
    let points = c.args.points.now in
    Bytes-AreBytes points (Bytes_from_places points (λ k l. omega (arith, c.type_inv.points k)))

pub returns-clause-rows : goal.returns-clause-rows
returns-clause-rows c = λ k other l. c.loop-place.invariant.rows k (omega arith) other

pub returns-clause-sum : goal.returns-clause-sum
returns-clause-sum c =
    let shares = c.args.shares.now in
    let factors = lagrange_factors c.args.points.now 0 in
    let as_many : length factors ≡ length shares =
    length-lagrange_factors c.args.points.now 0 ∙ ap length c.requires.points
    ∙ length-map shares (λ (share : Share). share.point) in
    sym (add_multiples-end c.loop-place.key factors (rows_of shares) c.loop-place.place (omega arith))
    ∙ c.loop-place.invariant.sums
