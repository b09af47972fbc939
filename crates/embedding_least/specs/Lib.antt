pub mod InnerImages
pub mod Answers
