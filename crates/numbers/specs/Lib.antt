pub mod Count
pub mod Limit
pub mod Bytes
