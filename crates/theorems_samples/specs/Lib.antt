pub mod Letters
pub mod Plugs
