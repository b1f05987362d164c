pub mod Inversion
pub mod Wave
pub mod WaveForms
pub mod WaveSteps
pub mod WaveLanes
pub mod WaveTiles
pub mod WaveRows
