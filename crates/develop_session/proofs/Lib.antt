pub mod ReadLemmas
pub mod PutLemmas
pub mod PictureLemmas
pub mod ReplayLemmas
pub mod SessionLemmas
pub mod CompleteLemmas
pub mod NumberLemmas
