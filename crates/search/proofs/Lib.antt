pub mod RankAnswers
pub mod Places
pub mod Cells
