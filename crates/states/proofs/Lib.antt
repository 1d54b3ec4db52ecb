-- What the proofs of the crates above cite.
pub mod Every
pub mod Groups
pub mod Equal
-- Of the promises themselves.
pub mod OneReply
