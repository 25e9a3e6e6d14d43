-- Lists the definitions that contracts of typed writing cite.
pub mod WrittenTrees
pub mod Out
pub mod EscapeFreeMarks
pub mod Writes
pub mod Pieces
pub mod WholeOutputs
pub mod ValueTrees
pub mod Brackets
pub mod Stages
pub mod WrittenCollections
pub mod RemainingOutput
pub mod WrittenKeys
pub mod KeyLending
