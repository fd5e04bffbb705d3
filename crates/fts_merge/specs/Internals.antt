-- Definitions of private functions; public contracts name none of them.
pub mod Deletes
