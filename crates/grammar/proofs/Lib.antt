-- a reader's states spell the signs that it has read, and end at the tree that they are read as
pub mod Reader
-- at most one sign stands at a place, and the text's signs begin with it
pub mod Text
-- at most one tree fits a text
pub mod Unique
