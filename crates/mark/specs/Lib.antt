-- the marks, and the mark call
pub mod Mark
-- two entries as the mark asks about them; an inner contract
pub mod Pair
-- the mark by structures without copies
pub mod Plain
