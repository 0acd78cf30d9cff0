pub mod SlotLemmas
pub mod OrderLemmas
pub mod FaultLemmas
