-- words written to bytes
mod Writing
-- what the call of a table has to answer
mod Tables
-- arrays from calls of a closure
pub mod Calls
