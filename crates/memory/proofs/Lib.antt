-- what a slot says, and what one that is written changes
pub mod Slot
-- slots in words that are lent on and come back
pub mod Moved
-- what the answer to one question tells of another
pub mod Easier
