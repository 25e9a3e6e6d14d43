-- Lists the definitions of literals.
pub mod Literals
