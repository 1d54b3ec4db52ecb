pub mod Supervised
pub mod Amended
pub mod FlagTwelve
pub mod Stalled
pub mod NamedCalls
pub mod Bench
pub mod NamedRuns
