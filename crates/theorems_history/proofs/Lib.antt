-- What the crates above cite: the theorem of Demand3; and for the laws of a supervisor, Steps.
pub mod Demand3
pub mod Steps
pub mod Since
pub mod Judges
-- Examples, which nothing cites.
pub mod Toy
pub mod BadHabits
