-- Lists the lemmas about what the program does.
pub mod WordsTaken
pub mod KeysTaken
pub mod PartsRead
pub mod Reading
pub mod EditsMade
pub mod EditsDone
pub mod ValuesMoved
pub mod Statuses
