pub mod Tokens
pub mod Reading
pub mod Faults
pub mod Writing
pub mod Steps
