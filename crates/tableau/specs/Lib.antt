-- What a tableau speaks of: what is wanted at a world, and what is asked of its successors.
-- entries wanted true and entries wanted false
pub mod Wants
-- needs, limits, promises, rows
pub mod Counting
-- the search for a solution
pub mod Search
-- a list of sets that stands for all
pub mod Listed
-- weights that refute a problem
pub mod Weights
