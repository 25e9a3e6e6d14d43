-- Lists the lemmas about typed writing.
pub mod RemainingOutput
pub mod VariantOpened
pub mod CollectionsWritten
pub mod SpelledKeys
pub mod HexPieces
