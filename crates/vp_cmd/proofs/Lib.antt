pub mod Files
pub mod Guarding
pub mod Numbers
pub mod OneDue
pub mod Refusing
pub mod Streaming
pub mod Written
