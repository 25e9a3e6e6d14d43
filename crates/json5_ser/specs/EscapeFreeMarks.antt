-- Which strings and keys of a written tree are escape-free, and the tree without these marks.
-- A promise rests on this.
pub use Rattle.json5_write.specs.EscapeFreeMarks.{is_escape_free_text, is_escape_free_key, marks, element_marks, field_marks, unmarked, unmarked_elements, unmarked_fields, IsSpelled, AreSpelled, FieldsAreSpelled}
