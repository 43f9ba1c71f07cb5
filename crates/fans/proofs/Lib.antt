pub mod Marking
pub mod SingularCount
pub mod Classing
pub mod NoSingular
