-- Lists the lemmas for reports.
pub mod TokensTaken
pub mod CoursesTaken
pub mod PathsShown
pub mod ReportsPut
