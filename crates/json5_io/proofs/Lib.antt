-- Lists the lemmas of readers.
pub mod Refusals
