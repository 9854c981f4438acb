pub mod Answerer
pub mod Ends
pub mod Exchanges
pub mod Number
pub mod Record
pub mod Text
