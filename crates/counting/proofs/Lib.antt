-- The laws of the search as the program keeps it.
-- which entries are needs and limits
pub mod Asking
-- slots in words
pub mod Slots
-- what the slots lack and leave
pub mod Measures
-- the search stands in the words
pub mod Standing
