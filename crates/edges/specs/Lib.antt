pub mod Uses
pub mod Table
pub mod Told
pub mod Words
