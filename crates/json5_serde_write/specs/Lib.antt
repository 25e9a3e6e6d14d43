-- Lists what contracts say of what is written.
pub mod WrittenTexts
pub mod Scalars
pub mod Pens
