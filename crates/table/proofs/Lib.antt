-- cases on a kind
pub mod Cases
-- the formulas of a table, entry by entry
pub mod Formulas
-- the bits of an entry that its kind does not use
pub mod Fields
-- what an accepted table is known to meet
pub mod Accepted
-- depths
pub mod Depths
-- no depth is over 63: document 02, P4
pub mod Shallow
-- the sum of grades
pub mod Grades
