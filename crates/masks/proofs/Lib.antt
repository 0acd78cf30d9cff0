pub mod RangeLemmas
pub mod NumberLemmas
pub mod ConvexLemmas
pub mod LineLemmas
pub mod EdgeLemmas
pub mod FillLemmas
pub mod CoveringLemmas
