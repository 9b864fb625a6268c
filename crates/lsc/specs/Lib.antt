pub mod Lsc
