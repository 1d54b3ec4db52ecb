-- What the proofs of the crates above cite.
pub mod Settles
pub mod EachCall
pub mod Loads
pub mod BlockLoads
pub mod Gates
pub mod Spin
-- Of the promises themselves.
pub mod OneReply
