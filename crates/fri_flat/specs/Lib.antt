pub mod Answers
pub mod Asked
pub mod Flat
pub mod Hiding
pub mod HidingAnswers
pub mod KeptAnswers
pub mod Layouts
