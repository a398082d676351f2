use Rattle.scfs_gf256.proofs.Times.{times-remainder, times-lt, times_assoc, times_comm, times-right, times-one}
use Rattle.scfs_gf256.proofs.Times.{times-zero}
use Rattle.scfs_gf256.proofs.Powers.{zero_divisor, times-inverse_of}
use Rattle.scfs_gf256.proofs.laws.product_laws.Goals as goal

pub returns : goal.returns
returns c =
    record {
      remainder = times-remainder;
      byte = times-lt;
      associative = times_assoc;
      commutative = times_comm;
      distributive = times-right;
      one = times-one;
      zero = times-zero;
      no_zero_divisors = zero_divisor;
      inverse = times-inverse_of;
    }
