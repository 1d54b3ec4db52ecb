pub mod Between
pub mod Reads
pub mod Turn
