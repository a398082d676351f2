use Rattle.scfs_gf256.proofs.LaneLemmas.{lower_ok, upper_ok, length-sums, sum_at}
use Rattle.scfs_gf256.proofs.lanes.looked_up.Goals as goal

pub swizzle : goal.swizzle
swizzle c = lower_ok c.args.bytes c.fits-bytes.0 c.fits-bytes.1

pub swizzle-2 : goal.swizzle-2
swizzle-2 c = upper_ok c.args.bytes c.fits-bytes.0 c.fits-bytes.1

pub returns-clause-lanes : goal.returns-clause-lanes
returns-clause-lanes c =
    length-sums c.args.bytes c.fits-bytes.0 c.fits-bytes.1 c.args.low.now c.args.high.now c.twice.result c.twice-2.result c.twice.ensures.bytes c.twice-2.ensures.bytes

pub returns-clause-sums : goal.returns-clause-sums
returns-clause-sums c =
    sum_at c.args.bytes c.fits-bytes.0 c.fits-bytes.1 c.args.low.now c.args.high.now c.twice.result c.twice-2.result c.twice.ensures.bytes c.twice-2.ensures.bytes
