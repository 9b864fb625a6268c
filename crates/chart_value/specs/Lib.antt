pub mod WellFormed
pub mod Writer
pub mod Given
pub mod Guards
pub mod View
pub mod Marks
pub mod Records
