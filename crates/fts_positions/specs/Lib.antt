pub mod PositionLists
pub mod PositionListLogs
pub mod PositionListBounds
pub mod PositionsLeft
pub mod PositionCopiers
