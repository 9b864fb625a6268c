pub mod Chain
pub mod Numbers
