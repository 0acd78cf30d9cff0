pub mod EntryLemmas
pub mod FindLemmas
pub mod FrontLemmas
pub mod KeepLemmas
