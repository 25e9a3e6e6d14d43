-- Lists the definitions of edits with values.
pub mod Spelled
pub mod Trees
pub mod Refusals
pub mod Locations
pub mod Patches
pub mod Merges
pub mod News
pub mod Puts
