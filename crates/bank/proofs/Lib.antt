pub mod Dues
pub mod Sectors
pub mod Shapes
pub mod Stores
