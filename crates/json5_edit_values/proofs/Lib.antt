-- Lists the lemmas about edits with values.
pub mod ValuesSpelled
pub mod Refused
pub mod PatchesMade
pub mod PathsJoined
pub mod MergesMade
pub mod PutsMade
pub mod PutsRefused
pub mod PathsPut
pub mod PutsPlain
