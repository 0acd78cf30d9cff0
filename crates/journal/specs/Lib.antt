pub mod Pipes
pub mod Tickets
pub mod Desk
pub mod Lines
pub mod Own
pub mod Good
