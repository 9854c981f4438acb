pub mod Allowed
pub mod History
pub mod Means
pub mod Reports
pub mod Rounds
pub mod Worked
