pub mod Renumber
pub mod Numbered
