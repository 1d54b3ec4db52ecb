pub mod Run
pub mod Stream
