-- A JSON Schema of values like one.
-- A promise rests on this.
use Rattle.std.specs.Prelude.{if◌then◌else◌, nat_eq, codes, ◌==◌, ℕ, List, [], ◌∷◌, ◌++◌, length, Option, Some, None}
use Rattle.std.specs.Borrow.{Bor}
use Rattle.std.specs.Cmp.Lexicographic.{pointwise}
use Rattle.std.specs.Str.{chars, encode_utf8_all}
use Rattle.json5_grammar.specs.Language.Documents.{max_depth}
use Rattle.json5_grammar.specs.Language.Numbers.{Number, whole, decimal}
use Rattle.json5_styles.specs.Json.{JsonText}
use Rattle.json5_styles.specs.JsonTexts.{is_json}
use Rattle.json5_styles.specs.LaidBack.{ReadsAs}
use Rattle.json5_types.specs.ValueMeanings.{Datum, null, boolean, number, text, array, object, Items, no_item, item, Fields, no_field, field}

-- paths, and the words for each
abbrev pub Comments : Type 0
Comments = List (Bor (List ℕ) × Bor (List ℕ))

abbrev pub text_in : Option (Bor (List ℕ)) → Option (List ℕ)
text_in None = None
text_in (Some words) = Some words.now

-- the words for a path, of equal ones the first
abbrev pub words_at : Comments → (path : List ℕ) → Option (List ℕ)
words_at [] path = None
words_at (c ∷ cs) path = if pointwise nat_eq c.0.now path then Some c.1.now else words_at cs path

-- the path of a member
abbrev pub member_path : (at key : List ℕ) → List ℕ
member_path at key = if length at == 0 then key else at ++ (codes "." ++ key)

-- a text before all others, if there is one
abbrev pub led : List ℕ → Option (List ℕ) → Fields → Fields
led key None fs = fs
led key (Some words) fs = field key (text (chars words)) fs

abbrev pub type_of_number : Number → List ℕ
type_of_number (whole z) = codes "integer"
type_of_number (decimal d) = codes "number"

-- the name of a value's type; null may stand for any
abbrev pub type_of : Datum → Option (List ℕ)
type_of null = None
type_of (boolean b) = Some (codes "boolean")
type_of (number n) = Some (type_of_number n)
type_of (text u) = Some (codes "string")
type_of (array xs) = Some (codes "array")
type_of (object fs) = Some (codes "object")

-- the value as the default, if JSON has it
abbrev pub default_part : Datum → Fields
default_part x = if is_json x then field (codes "default") x no_field else no_field

-- what a schema says of the value at a path, and what it says of its inside
abbrev pub described : Comments → (at : List ℕ) → Datum → (inside : Fields) → Fields
described cs at x inside = led (codes "description") (words_at cs at) (led (codes "type") (type_of x) inside)

-- the default, or what is inside
abbrev mutual
  pub part_inside : Comments → (at : List ℕ) → Datum → Fields
  part_inside cs at (array xs) = items_part cs at xs
  part_inside cs at (object fs) = field (codes "properties") (object (member_schemas cs at fs)) no_field
  part_inside cs at x = default_part x

  -- the first element stands for all
  pub items_part : Comments → (at : List ℕ) → Items → Fields
  items_part cs at no_item = no_field
  items_part cs at (item x xs) = field (codes "items") (object (described cs (at ++ codes "[0]") x (part_inside cs (at ++ codes "[0]") x))) no_field

  pub member_schemas : Comments → (at : List ℕ) → Fields → Fields
  member_schemas cs at no_field = no_field
  member_schemas cs at (field u x fs) =
      field u (object (described cs (member_path at (encode_utf8_all u)) x (part_inside cs (member_path at (encode_utf8_all u)) x))) (member_schemas cs at fs)

abbrev pub schema_parts : Comments → (at : List ℕ) → Datum → Fields
schema_parts cs at x = described cs at x (part_inside cs at x)

-- the schema, which names its draft
abbrev pub schema_of : Comments → Datum → Datum
schema_of cs x = object (led (codes "$schema") (Some (codes "http://json-schema.org/draft-07/schema#")) (schema_parts cs [] x))

-- the text is JSON (RFC 8259), and reads as the schema of the value
pub record IsSchema (comments : Comments) (value : Datum) (made : List ℕ) : Type 0 where
  pub json : JsonText (chars made)
  pub reads : ReadsAs max_depth (chars made) (schema_of comments value)
