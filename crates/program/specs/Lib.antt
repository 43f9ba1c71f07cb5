pub mod Limits
pub mod Printed
