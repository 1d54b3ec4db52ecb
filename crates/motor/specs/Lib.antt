pub mod Counts
pub mod Reference
