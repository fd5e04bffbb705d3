pub mod UncommittedOperations
pub mod WriterIndexes
