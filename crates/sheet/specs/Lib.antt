-- what the input means, and what the sheet says
pub mod Sheet
-- the line that is printed
pub mod Line
-- the line for what a program reads
pub mod Program
