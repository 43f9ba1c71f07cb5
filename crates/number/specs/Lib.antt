pub mod Codes
pub mod Bytes
pub mod Numbers
pub mod Decimal
pub mod Steps
