-- Lists the lemmas about the program.
pub mod LinesWritten
pub mod Statuses
pub mod FilesWorked
pub mod WordsAnswered
pub mod Refusals
