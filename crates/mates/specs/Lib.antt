pub mod Mates
pub mod Matching
