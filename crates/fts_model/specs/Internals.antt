-- Definitions of the layout of private types; public contracts name none of them.
pub mod DocumentData
pub mod FieldValues
pub mod Joined
pub mod Lists
