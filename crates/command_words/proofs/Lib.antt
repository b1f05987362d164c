mod Asked
mod Commands
mod Numbers
mod Refused
