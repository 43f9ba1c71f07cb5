pub mod Counting
pub mod Joined
pub mod JoinLoop
pub mod Roots
pub mod TableLinks
pub mod Grouping
