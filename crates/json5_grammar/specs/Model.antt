-- Models that follow the code: reading as functions on lists, and arrays and objects from the front.
-- Private.
pub mod Reading
pub mod ReadBlanks
pub mod ReadTexts
pub mod ReadNumbers
pub mod ReadValues
pub mod ReadSteps
pub mod FixedWidthNumbers
pub mod PositionSteps
pub mod Collections
