-- Lists the definitions of what the program does.
pub mod ProgramRuns
pub mod Formats
pub mod Reports
pub mod Runs
pub mod CommandWords
pub mod Files
