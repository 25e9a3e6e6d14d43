-- What is written: a tree, with the keys of an object in order.
-- A promise rests on this.
pub use Rattle.json5_write.specs.WrittenTrees.{Written, null, boolean, number, text, array, object}
pub use Rattle.json5_write.specs.WrittenTrees.{Elements, no_element, element, Fields, no_field, field, WrittenKey, named, bad}
pub use Rattle.json5_write.specs.WrittenTrees.{integer, natural, elements_of, option_tree, newtype_variant, tuple_variant, struct_variant, fields_of}
pub use Rattle.json5_write.specs.WrittenTrees.{integer_key, natural_key, option_key}
