-- verdicts of a row of checks
pub mod Each
-- faults are told apart by their numbers
pub mod Numbers
-- tests of numbers, for the search for proofs
pub mod Tests
