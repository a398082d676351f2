pub mod Cutting
pub mod Asking
pub mod InMemory
pub mod Folder
