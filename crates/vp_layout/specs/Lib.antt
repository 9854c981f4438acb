pub mod Blocks
pub mod Cells
pub mod Drafts
pub mod Homes
pub mod Ties
pub mod Truths
