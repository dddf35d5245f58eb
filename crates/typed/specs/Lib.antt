-- what reading a text answers: 11, 12 and 10
pub mod Reading
-- 12, the limits of a text, and the table that it is written to
pub mod Written
-- what writing a text's table takes and leaves; an inner contract
pub mod Writing
-- what the writer of a table holds; an inner contract
pub mod Held
-- what its functions promise; an inner contract
pub mod Steps
