pub mod Above
pub mod Order
