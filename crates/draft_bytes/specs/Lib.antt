-- What the calls on drafts promise beside the steps, which are in `history`.
-- the entries of a draft as a table
pub mod Table
