pub mod Streams
pub mod Put
pub mod UnderWay
pub mod Statuses
