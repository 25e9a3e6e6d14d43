-- Lists the definitions of what the program does.
pub mod Requests
pub mod Choices
pub mod Parts
pub mod Values
pub mod Makes
pub mod Troubles
pub mod Works
pub mod SeveralEdits
pub mod Answers
