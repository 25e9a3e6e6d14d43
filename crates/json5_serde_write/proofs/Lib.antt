-- Lists the lemmas about what a pen writes.
pub mod Completed
pub mod Pens
