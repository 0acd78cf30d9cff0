pub mod StoryLemmas
pub mod AgreedLemmas
pub mod IndexLemmas
pub mod TurnLemmas
pub mod PlaneLemmas
