-- Lists the lemmas of json5_edit_style.
pub mod CommentsPassed
