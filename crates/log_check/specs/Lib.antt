pub mod Refusal
pub mod Check
pub mod Sound
pub mod Paced
pub mod Met
