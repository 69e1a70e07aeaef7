pub mod Story
