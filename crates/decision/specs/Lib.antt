-- what the calls on entries share: W, the faults, the words at exit
pub mod Call
-- the decision call
pub mod Decide
-- questions about a table, as the calls ask them; an inner contract
pub mod Ask
