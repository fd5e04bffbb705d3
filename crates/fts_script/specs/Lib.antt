pub mod Responders
pub mod Runs
pub mod Stops
pub mod Streams
pub mod command
pub mod session
