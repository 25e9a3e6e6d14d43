-- Lists the lemmas about `format`.
pub mod Formats
