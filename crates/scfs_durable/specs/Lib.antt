pub mod Stores
pub mod Safe
pub mod Named
