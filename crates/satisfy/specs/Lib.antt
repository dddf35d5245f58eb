-- The decision by a tableau, as the program keeps it. Inner contracts: nothing here is promised to others.
-- what the functions that call each other ask and answer
pub mod Asking
-- lists of the largest sets of promises
pub mod Largest
-- a solution found by serving one need after the other
pub mod Greedy
-- the question through two sets
pub mod Sets
