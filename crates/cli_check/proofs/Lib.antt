-- Lists the lemmas about the program.
pub mod FilesChecked
pub mod Judged
pub mod NamesChecked
pub mod NamesLed
pub mod SchemasTaken
pub mod Statuses
pub mod WordsTaken
