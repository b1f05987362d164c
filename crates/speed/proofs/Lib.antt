mod Coded
mod Draws
mod Powers
mod Scene
mod Walk
