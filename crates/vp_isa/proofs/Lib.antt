pub mod Bytes
pub mod Checking
pub mod Runs
pub mod Unrefused
pub mod Work
