-- the numbers that bytes spell
pub mod Bytes
-- the fields of a packed word
pub mod Field
