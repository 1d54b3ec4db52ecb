pub mod Image
pub mod Table
pub mod Told
pub mod Reads
pub mod Writes
pub mod Choice
