-- What a tree means, without the marks.
-- A promise rests on this.
use Rattle.json5_grammar.specs.Language.Trees.{Tree, Trees, Members, null, boolean, number, text, array, object, no_more, more, no_member, member}
use Rattle.json5_types.specs.ValueMeanings.{Datum, Items, Fields, no_item, item, no_field, field}
use Rattle.json5_types.specs.ValueMeanings as datum

abbrev mutual
  pub datum_of : Tree → Datum
  datum_of null = datum.null
  datum_of (boolean b) = datum.boolean b
  datum_of (number n) = datum.number n
  datum_of (text u escape_free) = datum.text u
  datum_of (array ts) = datum.array (items_of ts)
  datum_of (object ps) = datum.object (fields_of ps)

  pub items_of : Trees → Items
  items_of no_more = no_item
  items_of (more t ts) = item (datum_of t) (items_of ts)

  pub fields_of : Members → Fields
  fields_of no_member = no_field
  fields_of (member u escape_free t ps) = field u (datum_of t) (fields_of ps)
