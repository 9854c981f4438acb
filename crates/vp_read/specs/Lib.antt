pub mod Faults
pub mod Naming
pub mod Numbers
pub mod Parts
pub mod Pieces
pub mod Reading
pub mod Sections
pub mod Spelling
