pub mod Slot
pub mod Faults
pub mod Order
