pub mod ByteBands
pub mod Fault
pub mod Grammar
pub mod Header
pub mod Pnm
pub mod Raster
pub mod Samples
pub mod Texts
