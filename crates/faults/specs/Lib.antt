pub mod Word
pub mod Exit
