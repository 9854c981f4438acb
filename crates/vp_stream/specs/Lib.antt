pub mod Answers
pub mod Lines
pub mod Pieces
pub mod Printing
pub mod Reading
pub mod Run
