pub mod PowerCode
pub mod PolyCode
pub mod FormCode
pub mod CheckCode
pub mod SandboxCode
pub mod Compiled
pub mod Parts
