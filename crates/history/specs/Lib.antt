pub mod Item
pub mod Stack
pub mod Faults
pub mod After
pub mod History
