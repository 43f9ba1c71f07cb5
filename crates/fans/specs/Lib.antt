pub mod Classes
pub mod Marks
pub mod Singular
