pub mod Settings
pub mod Rules
