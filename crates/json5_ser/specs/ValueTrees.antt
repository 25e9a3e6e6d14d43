-- The tree of a value of any kind.
-- A promise rests on this.
pub use Rattle.json5_write.specs.ValueTrees.{datum_tree, items_tree, fields_tree, value_tree, value_text, key_of_string}
