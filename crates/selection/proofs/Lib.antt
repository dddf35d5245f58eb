-- the search over a list, step by step
pub mod Selecting
-- the copies of one set, number by number
pub mod Varying
-- two listed sets change places
pub mod Swapping
