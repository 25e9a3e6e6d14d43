-- Lists the definitions that contracts of reading and writing by a description cite.
pub mod Described
pub mod Distinct
pub mod EitherContents
pub mod FieldCalls
pub mod Layouts
pub mod Named
pub mod Only
pub mod Spares
pub mod VariantContents
pub mod WrittenFields
