pub mod Said
pub mod Judge
