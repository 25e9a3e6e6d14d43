-- Lists the definitions for reading and skipping a value of any kind.
pub mod Brackets
pub mod Kinds
pub mod Offsets
pub mod ModelSteps
pub mod Entries
pub mod EntryFaults
pub mod FoundEntries
pub mod Opening
pub mod Nesting
pub mod SkipSteps
pub mod TreeMeanings
pub mod OwnedReads
pub mod BuildSteps
pub mod TakenEntries
pub mod DocumentChecks
pub mod DocumentReads
