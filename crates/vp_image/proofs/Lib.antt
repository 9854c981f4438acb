pub mod Complete
pub mod Instrs
pub mod Loop
pub mod Parts
pub mod Sound
pub mod Passing
