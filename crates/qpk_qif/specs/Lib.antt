pub mod Lines
pub mod Lists
pub mod Answers
pub mod Records
