pub mod Reached
pub mod Machine
pub mod Turns
