-- Lists the definitions of the language, its faults, written text, and the model that follows the code.
pub mod Language
pub mod Faults
pub mod Written
pub mod Model
