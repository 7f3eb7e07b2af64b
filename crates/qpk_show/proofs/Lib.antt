pub mod Lines
pub mod Faults
pub mod Observers
