-- Lists the definitions of what the programs share.
pub mod Failures
pub mod FolderSteps
pub mod Folders
pub mod Ignores
pub mod Inputs
pub mod JoinedTexts
pub mod NameLists
pub mod Reports
pub mod Says
pub mod ShownNames
pub mod Stores
