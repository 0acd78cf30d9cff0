pub mod BlendLemmas
pub mod RowLemmas
