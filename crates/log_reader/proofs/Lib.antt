pub mod Offsets
pub mod Said
pub mod There
