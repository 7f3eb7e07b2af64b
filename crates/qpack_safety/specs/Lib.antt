pub mod AbstractSession
pub mod AbstractSafety
pub mod TwoEnds
pub mod Refines
pub mod Headline
pub mod SessionSafety
pub mod LawfulFlights
pub mod HandedSections
