-- what a survey of a text finds; an inner contract
pub mod Survey
