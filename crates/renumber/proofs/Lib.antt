pub mod Filled
pub mod Places
pub mod Numbering
pub mod Walk
pub mod Sizes
