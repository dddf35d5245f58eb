-- the number of each fault, and which of several faults counts
pub mod Verdict
