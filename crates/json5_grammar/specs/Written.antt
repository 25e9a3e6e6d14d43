-- How numbers and strings are written.
-- Private.
pub mod NumberText
pub mod Quoting
