-- entries of signs: packed, and completed by an operand
pub mod Entries
-- what the writer holds, from one sign to the next
pub mod Held
-- waiting signs take their operands, one after the other
pub mod Settling
-- one sign is taken
pub mod Taking
-- what is counted in the signs of a tree
pub mod Counted
-- all signs of a text are taken
pub mod Progress
-- what a text is refused for
pub mod Verdicts
