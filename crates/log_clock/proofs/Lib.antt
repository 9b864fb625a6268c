pub mod Records
pub mod Times
