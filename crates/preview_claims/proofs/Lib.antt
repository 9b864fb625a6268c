pub mod Previewing
