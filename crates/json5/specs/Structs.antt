-- The words that `convert` of a struct or of an enum of names is made of, in one place.
-- A promise rests on this.
use Rattle.std.specs.Prelude.{Option}
use Rattle.json5_grammar.specs.Language.Trees.{Tree}
use Rattle.json5_fields.specs.Layouts.{Layout}
pub use Rattle.std.specs.Prelude.{codes}
pub use Rattle.json5_grammar.specs.Model.Collections.{object_of}
pub use Rattle.json5_fields.specs.Only.{only_these}
pub use Rattle.json5_fields.specs.Named.{one_named}
pub use Rattle.json5_fields.specs.Spares.{struct_free}
pub use Rattle.json5_fields.specs.Described.{RefusesDescribed, RefusesOnly}

-- an object of these fields; another one is passed over
abbrev pub struct_of : {S D : Type 0} → Layout S D → Tree → Option D
struct_of l = object_of l.convert

-- an object of these fields alone
abbrev pub struct_only : {S D : Type 0} → Layout S D → Tree → Option D
struct_only l = object_of (only_these l)
