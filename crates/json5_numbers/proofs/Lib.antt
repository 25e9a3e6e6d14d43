-- Lists the lemmas about the order of decimals, about texts of numbers, and about equal values.
pub mod DecimalOrders
pub mod DigitOrders
pub mod ParsedNumbers
pub mod PrintedFloats
mod SameLengths
pub mod SpelledNumbers
