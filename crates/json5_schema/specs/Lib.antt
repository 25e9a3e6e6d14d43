-- Lists the definitions of schemas.
pub mod Keywords
pub mod Patterns
pub mod Formats
pub mod Subschemas
pub mod Conformance
pub mod Views
pub mod Anchors
pub mod CanonicalForms
pub mod Divisors
pub mod Shapes
pub mod Refusals
pub mod RefusalSteps
