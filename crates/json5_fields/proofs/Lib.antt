-- Lists the lemmas on reading and writing by a description.
pub mod Described
pub mod DescribedFaults
pub mod EnumsRead
pub mod FieldsWritten
pub mod NamedValues
pub mod TextsApart
pub mod TextsThatDiffer
