pub mod Layout
pub mod Degrees
pub mod Fate
pub mod Angle
pub mod Sample
pub mod Turns
