-- a lent place that a refusal leaves as it was
pub mod Kept
-- what status and lent place say, exactly when
pub mod Demands
