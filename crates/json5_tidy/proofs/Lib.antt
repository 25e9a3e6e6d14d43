-- Lists the lemmas about tidying.
pub mod TokenFronts
pub mod KeptDocuments
pub mod KeptLexemes
pub mod SameSteps
pub mod Kept
