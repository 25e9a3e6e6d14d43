-- Lists the definitions of what the program does.
pub mod Answers
pub mod Checks
pub mod CommandWords
pub mod Drafts
pub mod Names
pub mod Naming
pub mod Schemas
pub mod SchemaSteps
pub mod Troubles
pub mod WordSteps
