-- Lists the definitions of texts that are bytes.
pub mod Bytes
pub mod Readers
