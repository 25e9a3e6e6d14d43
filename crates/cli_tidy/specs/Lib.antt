-- Lists the definitions of what the program does.
pub mod Refusals
pub mod Tidies
pub mod Answers
pub mod ChosenStyles
pub mod CommandWords
pub mod WordSteps
pub mod Troubles
pub mod Files
pub mod Names
