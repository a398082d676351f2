pub mod Acks
pub mod Marks
