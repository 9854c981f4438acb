pub mod Answering
pub mod Cells
pub mod Counting
pub mod Drafts
pub mod HomeLaws
pub mod Kept
mod Lists
pub mod Machines
pub mod Products
pub mod Replying
pub mod Running
pub mod Taking
pub mod Writes
