-- Lists the definitions of what each type here is read and written as.
pub mod Addresses
pub mod Bounds
pub mod Defaults
pub mod Derived
pub mod Durations
pub mod Floats
pub mod Keys
pub mod OldNames
pub mod Paths
pub mod Rest
pub mod Sizes
pub mod Spellings
pub mod Sums
pub mod TextSets
pub mod Twins
pub mod Urls
