pub mod AskedLemmas
pub mod StageLemmas
