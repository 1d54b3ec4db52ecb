pub mod NextLine
pub mod Judged
pub mod Run
pub mod Sentences
pub mod Printed
pub mod First
pub mod Fed
