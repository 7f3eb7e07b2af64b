pub mod Duties
pub mod Findings
