-- Typed text: document 02, P1.
-- how signs are spelt, and the signs of a text
pub mod Text
-- trees of signs, and how closely signs bind
pub mod Tree
-- the grammar: which tree a text is read as
pub mod Fits
-- numbers over 255 in signs, and how many entries they make
pub mod Measure
-- what the next sign of a text is; an inner contract
pub mod Lexed
-- the states of a reader; an inner contract
pub mod Parser
