pub mod Groups
pub mod Distinct
pub mod Forest
pub mod Parents
