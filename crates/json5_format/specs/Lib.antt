-- Lists the definitions that contracts of `format` cite.
pub mod Formatted
