-- The packed structure of document 01, "The drawn build": bytes, records, what they state, and what they are refused for.
-- the numbers of the kinds of records
pub mod Kind
-- bytes to 24-bit words to records
pub mod Record
-- records to the structure that they state
pub mod Read
-- what they state, as rows of words
pub mod Masks
-- the faults 6 to 8, in order
pub mod Check
-- how drawings read before copies
pub mod Plain
