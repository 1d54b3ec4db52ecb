pub mod Table
pub mod Told
pub mod Search
pub mod Lengths
pub mod Puts
pub mod Given
pub mod Rows
pub mod Written
pub mod Read
pub mod Inverse
pub mod Made
pub mod Replies
pub mod Writing
pub mod Chosen
pub mod Examples
-- Of the promises themselves.
pub mod OneReply
