pub mod Sizes
pub mod Printed
pub mod MoreBytes
pub mod WhatIsFound
pub mod Laws
pub mod Stream
-- Of the promises themselves.
pub mod OneReply
