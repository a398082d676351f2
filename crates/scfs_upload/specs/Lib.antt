pub mod Codes
pub mod Inside
pub mod Queue
pub mod Uploading
