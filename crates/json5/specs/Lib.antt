-- Lists the definitions that contracts and users' types cite.
pub mod DocumentReads
pub mod ReadsBack
pub mod Structs
pub mod ValueRefs
pub mod ValueRefTrees
pub mod ValueRefWalks
-- What else contracts cite, and what a user's type cites: trees, and what an input holds.
pub use Rattle.json5_grammar.specs.Language.Trees
pub use Rattle.json5_grammar.specs.Language.Values
pub use Rattle.json5_grammar.specs.Model.Collections
pub use Rattle.json5_grammar.specs.Language.Documents
pub use Rattle.json5_grammar.specs.Language.Numbers
pub use Rattle.json5_grammar.specs.Language.Characters
pub use Rattle.json5_grammar.specs.Faults.Positions
pub use Rattle.json5_grammar.specs.declared.position.Position
pub use Rattle.json5_grammar.specs.declared.error_code.ErrorCode
pub use Rattle.json5_types.specs.Cows
pub use Rattle.json5_types.specs.ValueMeanings
pub use Rattle.json5_types.specs.ValueEquality
pub use Rattle.json5_tokens.specs.Cursor
pub use Rattle.json5_tokens.specs.ShortWays
pub use Rattle.json5_types.specs.Errors
pub use Rattle.json5_types.specs.declared.error.Error
pub use Rattle.json5_types.specs.declared.value.Value
-- Formatting.
pub use Rattle.json5_format.specs.Formatted
-- Reading.
pub use Rattle.json5_read.specs.EntryFaults
pub use Rattle.json5_de.specs.State
pub use Rattle.json5_de.specs.DeserializeLaw
pub use Rattle.json5_de.specs.Convert
pub use Rattle.json5_de.specs.ConvertLists
pub use Rattle.json5_de.specs.Refinement
pub use Rattle.json5_de.specs.Spans
pub use Rattle.json5_de.specs.ReaderSteps
pub use Rattle.json5_de.specs.Faults
pub use Rattle.json5_de.specs.TokenKinds
pub use Rattle.json5_de.specs.AnyTree
pub use Rattle.json5_de.specs.OptionFaults
pub use Rattle.json5_de.specs.Arrays
pub use Rattle.json5_de.specs.AccessCalls
pub use Rattle.json5_de.specs.ListFaults
pub use Rattle.json5_de.specs.Keys
pub use Rattle.json5_de.specs.KeyKinds
pub use Rattle.json5_de.specs.Objects
pub use Rattle.json5_de.specs.ObjectFaults
pub use Rattle.json5_de.specs.Maps
pub use Rattle.json5_de.specs.MapFaults
pub use Rattle.json5_de.specs.Fields
pub use Rattle.json5_de.specs.Plans
pub use Rattle.json5_de.specs.KeyPlaces
pub use Rattle.json5_de.specs.StructFaults
pub use Rattle.json5_de.specs.Enums
pub use Rattle.json5_de.specs.Variants
pub use Rattle.json5_de.specs.Lending
pub use Rattle.json5_de.specs.WholeInputs
-- Reading and writing by a description.
pub use Rattle.json5_fields.specs.Layouts
pub use Rattle.json5_fields.specs.Described
pub use Rattle.json5_fields.specs.FieldCalls
pub use Rattle.json5_fields.specs.Only
pub use Rattle.json5_fields.specs.Spares
pub use Rattle.json5_fields.specs.Named
pub use Rattle.json5_fields.specs.WrittenFields
pub use Rattle.json5_fields.specs.VariantContents
pub use Rattle.json5_fields.specs.Distinct
-- Writing. Seven modules of json5_ser name the definitions of json5_write again, whose own names a goal shows.
pub use Rattle.json5_ser.specs.WrittenTrees
pub use Rattle.json5_ser.specs.ValueTrees
pub use Rattle.json5_ser.specs.Out
pub use Rattle.json5_ser.specs.EscapeFreeMarks
pub use Rattle.json5_ser.specs.Writes
pub use Rattle.json5_ser.specs.Pieces
pub use Rattle.json5_ser.specs.WholeOutputs
pub use Rattle.json5_ser.specs.WrittenCollections
pub use Rattle.json5_ser.specs.WrittenKeys
pub use Rattle.json5_ser.specs.KeyLending
pub use Rattle.json5_write.specs.WrittenTrees as WriteWrittenTrees
pub use Rattle.json5_write.specs.ValueTrees as WriteValueTrees
pub use Rattle.json5_write.specs.Out as WriteOut
pub use Rattle.json5_write.specs.EscapeFreeMarks as WriteEscapeFreeMarks
pub use Rattle.json5_write.specs.Writes as WriteWrites
pub use Rattle.json5_write.specs.Pieces as WritePieces
pub use Rattle.json5_write.specs.WholeOutputs as WriteWholeOutputs
