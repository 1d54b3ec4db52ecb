pub mod Parts
pub mod Grown
pub mod ByFront
pub mod AnyFuel
pub mod FirstRecord
pub mod LoopOfRun
pub mod Stream
-- Of the promises themselves.
pub mod OneReply
