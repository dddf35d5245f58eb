-- the promises of a successor, one after the other
pub mod Promises
-- the parts of the promises, as a question of their own
pub mod Parts
-- the counting entries, entry by entry
pub mod Counted
-- the list, where words are lent
pub mod Lent
-- needs and limits without a solution
pub mod Unsolved
