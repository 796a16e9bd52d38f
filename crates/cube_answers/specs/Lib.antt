pub mod AnswerText
pub mod VerdictText
pub mod Sums
pub mod Examples
