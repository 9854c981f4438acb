pub mod Formula
pub mod Interval
pub mod Polynomial
pub mod Represents
pub mod Rounding
pub mod Truth
