-- The description table of document 01: bytes, entries, formulas, and what a table is refused for.
-- bytes to 32-bit words to entries
pub mod Entry
-- entries to formulas
pub mod Formulas
-- the faults 1 to 4, in order
pub mod Check
-- the bits of a packed entry that its kind uses
pub mod Mask
-- how many words of work space a decision needs
pub mod Space
-- entries without a fault of their own; an inner contract
pub mod Formed
-- the numbers of the kinds
pub mod Kind
