pub mod Answers
pub mod BoxAnswers
