use Rattle.scfs_gf256.proofs.Values.{value_of-lt, value_of-row_sum, value_of-scaled, value_of-cons, value_of-at_zero}
use Rattle.scfs_gf256.proofs.laws.value_laws.Goals as goal

pub returns : goal.returns
returns c =
    record {
      byte = value_of-lt;
      sums = value_of-row_sum;
      multiples = value_of-scaled;
      horner = value_of-cons;
      at_zero = value_of-at_zero;
    }
