-- The theorems about Hall samples.
pub mod Fates
pub mod Letters
pub mod Plugs
pub mod WrongSamples
