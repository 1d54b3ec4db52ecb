-- What the proofs of the crates above cite.
pub mod Places
pub mod Meant
-- Of the promises themselves.
pub mod OneReply
