-- arrays before anything is read into them
pub mod Zeros
-- lists that are filled from the front
pub mod Filling
-- numbers that bytes spell
pub mod Bytes
-- bytes that are written from the last to the first
pub mod Putting
