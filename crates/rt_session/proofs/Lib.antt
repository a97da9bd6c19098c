mod Ending
pub mod Held
mod Agreeing
mod Cuts
mod Keeping
mod Going
mod Building
mod Failing
mod Holding
mod Gathering
mod Telling
mod Owning
