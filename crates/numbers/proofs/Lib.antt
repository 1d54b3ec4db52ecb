-- What the proofs of the crates above cite.
pub mod Table
pub mod Tests
pub mod Fill
pub mod Bytes
pub mod Reply
-- Of the promises themselves.
pub mod OneReply
