pub mod Words
pub mod Past
pub mod Scene
pub mod Plug
pub mod Hears
pub mod Witness
pub mod Tells
