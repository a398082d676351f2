pub mod State
pub mod Views
pub mod Outputs
pub mod Asking
pub mod Keeping
pub mod Settled
pub mod Telling
pub mod Reacting
