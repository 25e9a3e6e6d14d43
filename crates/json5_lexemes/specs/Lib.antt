-- Lists the definitions for comparing lexemes.
pub mod SameLexemes
pub mod Lexemes
pub mod AlikeLexemes
pub mod SameSteps
pub mod Tokens
pub mod Runs
pub mod Plain
pub mod Spans
pub mod WithoutComments
pub mod PlainSteps
pub mod LastTokens
pub mod Pieces
pub mod SharedTokens
