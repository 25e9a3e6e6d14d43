-- Lists the definition for the types that nest brackets.
pub mod Brackets
