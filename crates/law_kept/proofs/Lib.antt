mod Rests
mod Idle
mod Handling
mod Units
mod After
