pub mod Decoded
pub mod Front
pub mod Run
