pub mod Shares
pub mod Recovery
