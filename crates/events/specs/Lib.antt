pub mod Words
pub mod Forms
pub mod Events
pub mod Reads
pub mod Texts
