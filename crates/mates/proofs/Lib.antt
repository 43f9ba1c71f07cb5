pub mod Settling
pub mod Meeting
