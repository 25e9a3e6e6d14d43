-- Lists the definitions of json5_edit_style.
pub mod Comments
pub mod Passing
