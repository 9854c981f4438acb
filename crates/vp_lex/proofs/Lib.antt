pub mod Filling
pub mod Runs
pub mod Scanning
pub mod Words
