pub mod Both
pub mod Cached
pub mod Doings
pub mod Kept
pub mod Paths
pub mod Uploads
pub mod Uses
