pub mod Values
pub mod Fields
pub mod Earlier
pub mod Shown
