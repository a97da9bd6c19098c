pub mod Firsts
pub mod Coming
mod Unfound
mod Ignored
mod Climbs
mod Providers
pub mod Readers
mod Cleaning
mod Unshown
pub mod Others
pub mod Stays
pub mod Looking
mod Running
mod MovesOwe
mod Taking
mod Waking
pub mod Frames
pub mod Enduring
pub mod Commanded
pub mod Calling
mod Standing
pub mod Lived
pub mod Polled
pub mod Onwards
pub mod Steadfast
mod Held
mod Reading
mod Unlooked
mod Lines
mod Since
mod Orders
mod NoneAgain
mod Entries
mod Entering
pub mod Renders
mod Sorting
mod Seen
mod Turning
mod Ordering
pub mod InTurn
pub mod Leading
pub mod Doms
pub mod Stopping
pub mod Loops
mod CallEntries
mod Quick
pub mod RunsOnce
pub mod Muted
pub mod Counting
pub mod Polls
pub mod Given
pub mod Carried
