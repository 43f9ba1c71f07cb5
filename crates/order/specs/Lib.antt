pub mod Choose
pub mod Sort
