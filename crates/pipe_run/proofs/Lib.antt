pub mod PlanLemmas
pub mod StageLemmas
