-- Lists the definitions that contracts of writing cite.
pub mod WrittenTrees
pub mod WritableNumbers
pub mod Out
pub mod Commas
pub mod Copies
pub mod EscapeFreeMarks
pub mod Writes
pub mod Pieces
pub mod ShortWrites
pub mod ReferencedWriters
pub mod WholeOutputs
pub mod Quotes
pub mod Brackets
pub mod Escaping
pub mod EscapeFree
pub mod NameBytes
pub mod ValueTrees
