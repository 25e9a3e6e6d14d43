-- Lists the definitions for the enums and structs that the rows use.
pub mod OwnEnums
pub mod OwnStructs
