-- what is read into a room
pub mod Reading
-- the room tells of the whole input
pub mod Whole
