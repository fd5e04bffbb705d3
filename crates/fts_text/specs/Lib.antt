pub mod Characters
pub mod Tokens
pub mod Places
