pub mod Exposed
