pub mod Streams
pub mod Awaited
pub mod Sections
pub mod Showing
pub mod Answers
