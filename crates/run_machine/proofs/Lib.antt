mod Stacks
mod Feeding
mod Wrote
mod Steps
pub mod Turning
pub mod Opening
pub mod Running
mod Hearings
pub mod Breaking
pub mod Quiet
pub mod Reporting
pub mod Noting
pub mod Leaving
