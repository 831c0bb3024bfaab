pub mod Eights
pub mod Places
pub mod Slots
pub mod Slotted
