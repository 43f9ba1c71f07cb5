-- Laws that belong to no one function.
pub mod Signs
pub mod Lexing
pub mod Items
pub mod Filling
pub mod Whole
pub mod Entries
pub mod Puts
pub mod Writes
pub mod Told
pub mod RoundTrip
pub mod Exactly
pub mod Examples
pub mod Spelling
