-- Laws of the meaning: how counts add up, and how truth is kept where structures are put side by side or under a new root.
-- how often a test holds below a bound
pub mod Count
-- sums, and what a test gains
pub mod Sum
-- copies level by level
pub mod Levels
-- a structure that stands within another keeps its truths
pub mod Copy
-- two structures side by side, with or without links from the second to the first
pub mod Union
-- a new world over a list of worlds
pub mod Root
-- the successors of a world as such a list
pub mod Successors
-- truth with copies and truth without
pub mod Plain
