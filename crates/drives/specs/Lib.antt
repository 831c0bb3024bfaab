pub mod Disks
pub mod Means
pub mod Plain
