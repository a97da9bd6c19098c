pub mod KnownSpots
pub mod RunWritten
pub mod Starting
pub mod RunDone
pub mod RunOpened
pub mod RunFilled
pub mod Meeting
