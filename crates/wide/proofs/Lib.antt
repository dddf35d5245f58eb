-- formulas that may stand for others
pub mod Standing
-- places that may stand for others
pub mod Folding
-- words that are filled with the entries of a table
pub mod Widening
