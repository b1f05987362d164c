pub mod EightWords
