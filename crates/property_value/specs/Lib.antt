pub mod OneProperty
