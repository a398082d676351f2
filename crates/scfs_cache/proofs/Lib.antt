pub mod LastUses
pub mod PathKeys
pub mod Shown
pub mod UploadKeys
pub mod Whole
