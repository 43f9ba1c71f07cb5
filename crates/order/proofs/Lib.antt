pub mod Lists
pub mod Parts
pub mod Blocks
pub mod Scatter
pub mod Counting
pub mod Chain
pub mod Joined
