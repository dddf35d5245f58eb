-- a status, and the answer at a lent place
pub mod Status
