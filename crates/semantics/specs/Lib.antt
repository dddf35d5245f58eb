-- The meaning of graded modal logic on finite structures: what every promise of the other crates is stated in.
-- formulas, and their modal depth
pub mod Formula
-- how often a test holds below a number, and sums
pub mod Count
-- finite Kripke structures, whose links have copies
pub mod Structure
-- truth at a world, and satisfiable
pub mod Truth
-- structures without copies, as published
pub mod Plain
-- what a yes-or-no answer says
pub mod Answer
