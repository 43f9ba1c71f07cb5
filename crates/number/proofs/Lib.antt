-- Laws that belong to no one function.
pub mod Runs
pub mod Width
pub mod Decimals
pub mod Putting
pub mod Told
