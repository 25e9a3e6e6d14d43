-- The output of a tree, and where it stops.
-- Private.
pub use Rattle.json5_write.specs.Out.{Out, Stop, whole, invalid_key, too_deep, no_number, piece, stopped, followed_by, ◌then◌}
pub use Rattle.json5_write.specs.Out.{line, bool_text, number_out, key_out, opened_by, closed_by, element_out, key_part, value_part}
pub use Rattle.json5_write.specs.Out.{out, elements_out, fields_out, text_within, written_text, entry_out, variant_opening}
