pub mod Risk
pub mod Hearing
pub mod Encoders
pub mod Wishes
