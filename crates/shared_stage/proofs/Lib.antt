pub mod StoryLemmas
