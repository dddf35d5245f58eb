-- The wants of a world, as the program keeps them. Inner contracts: nothing here is promised to others.
-- the lent words
pub mod Levels
-- what is asked of a world, and the two cases of a split
pub mod World
-- what follows without a split
pub mod Force
