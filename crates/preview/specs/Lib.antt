pub mod Preview
pub mod Parts
