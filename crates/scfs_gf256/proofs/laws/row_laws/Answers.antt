use Rattle.scfs_gf256.proofs.RowLaws.{slice_index-row_sum, slice_index-scaled, slice_index-add_multiples}
use Rattle.scfs_gf256.proofs.RowLaws.{length-add_multiples}
use Rattle.scfs_gf256.proofs.laws.row_laws.Goals as goal

pub returns : goal.returns
returns c =
    record {
      sums = slice_index-row_sum;
      multiples = slice_index-scaled;
      columns = slice_index-add_multiples;
      length = length-add_multiples;
    }
