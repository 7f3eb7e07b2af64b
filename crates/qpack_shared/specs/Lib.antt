pub mod Places
pub mod Unsent
pub mod Streams
