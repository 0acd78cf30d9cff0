pub mod ChangeLemmas
pub mod FaultLemmas
pub mod KeptLemmas
pub mod OpeningLemmas
