-- the count of ones of masks
mod Counting
-- places that are given out one after the other
mod Placing
-- the masks have what the entries ask for
mod Served
-- document 01's examples M1 to M9
pub mod Examples
