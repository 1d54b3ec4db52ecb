-- What holds of each pattern of a layout.
pub mod Layouts
-- What callers of this crate cite besides its promises.
pub mod Laws
pub mod Widths
pub mod Angles
-- Of the promises themselves.
pub mod OneReply
