pub mod Growing
pub mod Working
pub mod Noding
pub mod Routing
pub mod Trying
pub mod Along
pub mod Holding
pub mod Running
