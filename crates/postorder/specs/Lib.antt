-- the order of a formula's entries
pub mod Order
