pub mod Field
pub mod Rows
pub mod Polynomials
pub mod Interpolation
