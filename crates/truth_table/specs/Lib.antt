-- the truth table of a structure, and what a call for it is refused for
pub mod Board
-- what entries ask of a structure, and where the masks hold it
pub mod Masks
