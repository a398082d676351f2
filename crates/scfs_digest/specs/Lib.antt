pub mod Hmac
pub mod Texts
