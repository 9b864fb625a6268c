pub mod Count
pub mod Laws
pub mod Ends
