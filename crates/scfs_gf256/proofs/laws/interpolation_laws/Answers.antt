use Rattle.scfs_gf256.proofs.Fitting.{coefficients_of-IsOnlyFit, coefficients_of-values, value_of-coefficients_of}
use Rattle.scfs_gf256.proofs.Fitting.{slice_index-lagrange_factors, length-lagrange_factors}
use Rattle.scfs_gf256.proofs.Fitting.{slice_index-interpolated_rows}
use Rattle.scfs_gf256.proofs.laws.interpolation_laws.Goals as goal

pub returns : goal.returns
returns c =
    record {
      one_fit = coefficients_of-IsOnlyFit;
      gives_back = coefficients_of-values;
      linear = value_of-coefficients_of;
      factors = slice_index-lagrange_factors;
      as_many = length-lagrange_factors;
      rows = slice_index-interpolated_rows;
    }
