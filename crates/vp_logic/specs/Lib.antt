pub mod Cases
pub mod Narrow
pub mod Normal
pub mod Renamed
pub mod Sized
pub mod Tree
pub mod Truth
