pub mod Unit
pub mod Checking
pub mod Unsealing
pub mod Clash
pub mod Steps
