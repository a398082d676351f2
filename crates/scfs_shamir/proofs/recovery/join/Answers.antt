use Rattle.std.proofs.Common.{◌≡◌, ◌+◌, ◌<◌, ℕ, List, length, replicate, take, sym, subst, ap, ◌∙◌, arith}
use Rattle.std.proofs.lemmas.Grind.{same_number_lists}
use Rattle.scfs_gf256.specs.Rows.{add_multiples}
use Rattle.scfs_gf256.specs.Polynomials.{AreBytes}
use Rattle.scfs_gf256.specs.Interpolation.{lagrange_factors}
use Rattle.scfs_shamir.specs.Recovery.{points_of, joined_byte}
use Rattle.scfs_shamir.proofs.RowLemmas.{each_byte_from}
use Rattle.scfs_shamir.proofs.ShareLemmas.{joined_byte_is}
use Rattle.scfs_shamir.proofs.JoinLemmas.{rows_of, joining_fits, joined_long, joined_at}
use Rattle.scfs_shamir.proofs.recovery.join.Goals as goal

pub returns-clause-fit : goal.returns-clause-fit
returns-clause-fit c =
    let shares = c.args.shares.now in
    let made = c.points-points.result in
    let count : c.from.result + 1 ≡ length shares = omega arith in
    let front : take (c.from.result + 1) made ≡ points_of shares =
    ap (λ n. take n made) count ∙ c.points-points.ensures in
    joining_fits shares c.joined.ensures.rows (subst AreBytes front c.joined.ensures.points) c.requires.distinct

pub returns-clause-value : goal.returns-clause-value
returns-clause-value c =
    let shares = c.args.shares.now in
    let made = c.points-points.result in
    let count : c.from.result + 1 ≡ length shares = omega arith in
    let front : take (c.from.result + 1) made ≡ points_of shares =
    ap (λ n. take n made) count ∙ c.points-points.ensures in
    let is : c.joined.result ≡ add_multiples (replicate 32 0) (lagrange_factors (points_of shares) 0) (rows_of shares) =
    c.joined.ensures.sum
    ∙ ap (λ points. add_multiples (replicate 32 0) (lagrange_factors points 0) (rows_of shares)) front in
    each_byte_from (joined_byte shares) c.joined.result (joined_long shares c.joined.ensures.rows c.joined.result is)
    (λ k l. joined_at shares c.joined.ensures.rows c.joined.result is k)

pub returns-clause-key : goal.returns-clause-key
returns-clause-key c key coefficients row rows own =
    let shares = c.args.shares.now in
    let made = c.points-points.result in
    let count : c.from.result + 1 ≡ length shares = omega arith in
    let front : take (c.from.result + 1) made ≡ points_of shares =
    ap (λ n. take n made) count ∙ c.points-points.ensures in
    let is : c.joined.result ≡ add_multiples (replicate 32 0) (lagrange_factors (points_of shares) 0) (rows_of shares) =
    c.joined.ensures.sum
    ∙ ap (λ points. add_multiples (replicate 32 0) (lagrange_factors points 0) (rows_of shares)) front in
    let long = joined_long shares c.joined.ensures.rows c.joined.result is in
    same_number_lists c.joined.result key (long ∙ sym row.long)
    (λ k l.
    let inside : k < 32 = omega (arith, long) in
    joined_at shares c.joined.ensures.rows c.joined.result is k
    ∙ joined_byte_is c.args.f key coefficients shares k inside c.requires.high c.requires.count c.requires.distinct row rows own)
