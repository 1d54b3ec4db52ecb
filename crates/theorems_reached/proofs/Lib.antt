-- What other crates cite.
pub mod Loads
pub mod Hall
pub mod Run
pub mod Offsets
pub mod Flags
pub mod Ticks
pub mod Keeps
pub mod Corollaries
pub mod Turns
pub mod Meant
