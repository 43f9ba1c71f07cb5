pub mod Counting
pub mod Lines
pub mod Fitting
pub mod Cutting
pub mod Answering
pub mod Cases
pub mod Codes
pub mod Determined
