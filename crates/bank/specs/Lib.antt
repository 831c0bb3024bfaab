pub mod Absent
pub mod Due
pub mod Meaning
pub mod Shapes
pub mod Shown
pub mod Told
