-- Lists the definitions for reports.
pub mod Places
pub mod Paths
pub mod Courses
pub mod Painted
pub mod Excerpts
pub mod Reports
