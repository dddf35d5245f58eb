-- such a table means its formula, and is accepted
pub mod Meaning
