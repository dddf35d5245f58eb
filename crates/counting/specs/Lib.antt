-- The search for a solution, as the program keeps it. Inner contracts: nothing here is promised to others.
-- a question as a problem
pub mod Question
-- the stack of slots in lent words
pub mod Stack
-- what the slots lack and leave
pub mod Bounds
-- what holds between the steps of the search
pub mod Search
