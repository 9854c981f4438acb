pub mod Known
pub mod Remaining
