pub mod AgreeLemmas
pub mod PassLemmas
pub mod PlaneLemmas
