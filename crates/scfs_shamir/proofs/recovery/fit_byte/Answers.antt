use Rattle.std.proofs.Common.{◌≡◌, ◌≢◌, ℕ, List, take, sym, subst, ap, ◌∙◌, slice_index}
use Rattle.std.specs.List.{All}
use Rattle.scfs_shamir.specs.Recovery.{points_of, bytes_at}
use Rattle.scfs_shamir.proofs.Peeling.{fit_at}
use Rattle.scfs_shamir.proofs.ShareLemmas.{nonzero_points}
use Rattle.scfs_shamir.proofs.recovery.fit_byte.Goals as goal

pub higher_coefficients-requires-clause-nonzero : goal.higher_coefficients-requires-clause-nonzero
higher_coefficients-requires-clause-nonzero c =
    let shares = c.args.shares.now in
    let made = c.points-points.result in
    let count = c.from-count.ensures ∙ sym c.requires.count in
    let front : take c.from-count.result made ≡ points_of shares =
    ap (λ n. take n made) count ∙ c.points-points.ensures in
    let nonzero : List ℕ → Type 0 = λ xs. All (λ x. x ≢ 0) xs in
    subst nonzero (sym front) (nonzero_points c.args.f shares c.requires.points)

pub returns-clause-fit : goal.returns-clause-fit
returns-clause-fit c =
    let shares = c.args.shares.now in
    let made = c.points-points.result in
    let bytes = c.bytes_at-bytes.result in
    let count = c.from-count.ensures ∙ sym c.requires.count in
    fit_at (take c.from-count.result made) (points_of shares) (take c.from-count.result bytes)
    (bytes_at shares c.args.place) (slice_index c.args.key.now c.args.place)
    (ap (λ n. take n made) count ∙ c.points-points.ensures)
    (ap (λ n. take n bytes) count ∙ c.bytes_at-bytes.ensures.bytes)
    c.higher_coefficients.ensures.fit
