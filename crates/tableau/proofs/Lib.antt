-- The laws of the tableau.
-- what the truth of an entry says of its parts
pub mod Rules
-- when the rule of a wanted entry is met
pub mod Treated
-- what is wanted grows entry by entry
pub mod Growth
-- a world that is as wanted of what no rule settles is as wanted
pub mod Closure
-- needs and limits as bounds on the number of successors
pub mod Bounds
-- a successor's promises as what is wanted there
pub mod Promises
-- from a world to a solution for every relation: completeness
pub mod Solved
-- finite search
pub mod Finite
-- from rows to the items of a root
pub mod Items
-- from solutions to a world: soundness of the answer yes
pub mod Built
-- how slots can be extended to a solution
pub mod Extend
-- what each step of the search keeps
pub mod Steps
-- from a solution to the search, and back
pub mod Ends
-- why the search ends
pub mod Potential
-- why its stack stays small
pub mod Stack
-- a need and a limit that exclude each other
pub mod Opposed
-- all promises together
pub mod Together
-- fewer needs and limits
pub mod Narrowed
-- a list of sets that stands for all
pub mod Listed
-- the search over a list of sets
pub mod Extension
-- refutation by weights
pub mod Weights
-- the search step by step
pub mod Searching
-- the needs and limits of one relation alone
pub mod Alone
