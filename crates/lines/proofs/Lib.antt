-- What the proofs of this crate cite, and the two theorems about reading.
pub mod Digits
pub mod LineOf
pub mod Places
pub mod Earlier
pub mod Back
-- Of the promises themselves.
pub mod OneReply
