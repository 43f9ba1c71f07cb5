pub mod Words
pub mod Cutting
pub mod Told
pub mod Answers
