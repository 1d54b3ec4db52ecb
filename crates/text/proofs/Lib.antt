-- What the proofs of the crates above cite.
pub mod Chains
pub mod Decimals
pub mod Signed
-- Of the promises themselves.
pub mod OneReply
