pub mod Causes
pub mod Content
pub mod Counts
pub mod Files
pub mod Loading
pub mod Planned
pub mod Room
