-- Lists what contracts say of values that a type sends, and of bytes and texts that it is read from.
pub mod Bytes
pub mod Spelled
pub mod Values
