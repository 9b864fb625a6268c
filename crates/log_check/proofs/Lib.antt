pub mod Laws
pub mod Sound
pub mod Steps
pub mod Paces
pub mod Meets
