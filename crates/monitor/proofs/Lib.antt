pub mod Breaks
pub mod Fitness
pub mod Feeding
pub mod Owned
pub mod Storing
pub mod History
pub mod Tests
