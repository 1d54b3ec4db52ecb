-- What the proofs of the crates above cite.
-- Of the promises themselves.
pub mod OneReply
