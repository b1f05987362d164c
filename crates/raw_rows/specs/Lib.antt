pub mod OneRow
pub mod Together
