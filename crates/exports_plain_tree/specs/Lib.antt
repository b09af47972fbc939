pub mod Trees
pub mod Answers
