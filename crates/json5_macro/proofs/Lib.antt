-- Lists the lemmas of literals.
pub mod PartsAdded
