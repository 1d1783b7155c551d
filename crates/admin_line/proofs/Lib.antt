pub mod AnswerReadBack
pub mod ReadBack
