pub mod Bits
pub mod Changes
pub mod Digits
pub mod Signed
