pub mod LineLemmas
pub mod PutLemmas
