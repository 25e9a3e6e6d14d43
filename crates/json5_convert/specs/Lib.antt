-- Lists the definitions for documents that are spelled anew.
pub mod Comments
pub mod Lines
pub mod Respelled
pub mod Sources
pub mod SpelledAnew
pub mod Spellings
pub mod Streams
pub mod Toml
