pub mod Kinds
pub mod Number
pub mod Rest
pub mod Texts
