-- Lists the definitions of what each type here is read and written as.
pub mod Accepted
pub mod Written
