-- Lists the lemmas about the program.
pub mod RefusalsRead
pub mod FilesWorked
pub mod NamesWorked
pub mod WordKinds
pub mod WordsRead
pub mod Statuses
pub mod NamesPushed
