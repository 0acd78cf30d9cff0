pub mod ItemLemmas
pub mod HistoryLemmas
