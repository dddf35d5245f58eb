-- What is asked of successors, as the program keeps it. Inner contracts: nothing here is promised to others.
-- what the promises of a successor come to
pub mod Promise
-- the counting entries and their relations
pub mod Relation
-- lists of sets of promises
pub mod Listing
-- what is learnt
pub mod Learning
