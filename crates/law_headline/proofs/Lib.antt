pub mod Views
pub mod Levels
pub mod Begins
pub mod UnitsShow
pub mod Reports
pub mod Carries
pub mod Down
pub mod Drawn
pub mod StandIns
pub mod Unshown
pub mod Midway
pub mod Cut
pub mod Shown
mod Rests
mod Faults
mod Open
mod Running
mod Dying
mod Wrote
pub mod EntriesCarry
mod Faulted
pub mod FromTheStart
pub mod Fronts
pub mod InRows
pub mod Changes
pub mod Altering
pub mod Entries
pub mod Passes
pub mod Sweep
pub mod Claims
pub mod Heights
pub mod Unfolding
pub mod Descent
pub mod Keys
pub mod Marks
pub mod Staying
pub mod Passing
pub mod Elements
pub mod Calm
pub mod Steps
pub mod Did
pub mod Lines
pub mod Trees
pub mod Dressed
pub mod Clothed
pub mod Nodes
pub mod Settled
pub mod Sides
pub mod Climbs
pub mod Since
pub mod Patches
pub mod Serving
pub mod Joining
pub mod Making
pub mod Meets
pub mod Ends
pub mod Settings
pub mod Above
pub mod ClaimedOnce
pub mod Homes
pub mod Single
pub mod Units
pub mod Reruns
