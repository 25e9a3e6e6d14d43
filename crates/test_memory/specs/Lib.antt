-- Lists the definition of what the sample type is read as.
pub mod Sample
