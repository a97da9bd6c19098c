mod Marks
mod Calm
mod Told
mod Tasks
mod CalmCommands
pub mod Leaving
mod Again
mod Looks
mod Ran
mod RunStages
mod Owed
mod Alone
mod BodyCalled
mod Runs
mod Stages
mod Steps
mod ChildKinds
mod FedKinds
mod Removed
mod Seen
mod Children
mod Moving
mod Handed
mod Moved
mod Sorted
pub mod Settled
pub mod Reported
pub mod Due
pub mod Limited
mod Passed
mod Rendered
pub mod Underway
pub mod ItemTurns
pub mod Begins
pub mod Sessions
pub mod Joins
pub mod OneMoveOnly
pub mod Weights
pub mod Leaves
pub mod Fuel
pub mod Settles
pub mod Acceptance
pub mod Logs
pub mod Tellings
pub mod Beginnings
pub mod Items
pub mod Pruning
pub mod Insides
pub mod ChildByChild
pub mod Reports
pub mod Always
pub mod Begun
mod Advanced
pub mod Asides
pub mod Ways
pub mod Woods
pub mod Commanded
pub mod Called
pub mod Untouched
pub mod Twigs
pub mod Woven
pub mod Lists
pub mod Patched
pub mod Made
pub mod Taken
pub mod Opens
pub mod Weaves
pub mod Everywhere
pub mod Served
