-- The language: what a document is, and the tree that it spells.
-- Private.
pub mod Characters
pub mod Blanks
pub mod Numbers
pub mod Strings
pub mod Names
pub mod Trees
pub mod Values
pub mod Documents
