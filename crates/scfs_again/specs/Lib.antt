pub mod Calls
pub mod Leaving
pub mod Again
pub mod Behind
