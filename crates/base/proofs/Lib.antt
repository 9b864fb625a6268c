pub mod Bools
pub mod Facts
pub mod Table
pub mod Filled
pub mod Bounds
pub mod Loops
