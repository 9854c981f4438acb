pub mod Answer
pub mod Boxes
pub mod Fits
pub mod Sandbox
pub mod Scope
pub mod Sizes
