pub mod Commands
pub mod Cuts
pub mod Drives
pub mod Parsed
pub mod Words
