pub mod CurveLemmas
pub mod LineLemmas
pub mod MixLemmas
pub mod NodeLemmas
pub mod WithinLemmas
pub mod OldLemmas
pub mod ExposeLemmas
