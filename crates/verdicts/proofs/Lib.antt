-- What callers of this crate cite besides its promises.
pub mod Table
pub mod Passed
pub mod OneToOne
-- Of the promises themselves.
pub mod OneReply
