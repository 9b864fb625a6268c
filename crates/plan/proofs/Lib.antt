pub mod Words
pub mod Slots
pub mod Members
pub mod Shows
