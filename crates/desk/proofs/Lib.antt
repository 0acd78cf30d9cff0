pub mod TurnLemmas
pub mod StepLemmas
pub mod HoldLemmas
pub mod GivenLemmas
pub mod EditLemmas
pub mod RestartLemmas
