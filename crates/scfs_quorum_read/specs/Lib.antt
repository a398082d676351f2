pub mod Reading
pub mod Tracking
