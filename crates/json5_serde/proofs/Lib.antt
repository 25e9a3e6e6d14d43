-- Lists the lemmas of what is read of bytes.
pub mod BytesRead
