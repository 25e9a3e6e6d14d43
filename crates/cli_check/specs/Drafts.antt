-- The drafts of JSON Schema that words name, and what a schema is that names none.
-- A promise rests on this.
use Rattle.std.specs.Prelude.{ℕ, Bool, ◌&&◌, not, if◌then◌else◌, List, Option, Some, None, is_some}
use Rattle.std.specs.Str.{chars}
use lib.Chars.{codes}
use Rattle.json5_types.specs.ValueChanges.{has_key, put_named}
use Rattle.json5_types.specs.ValueLookups.{fields_in, named_of}
use Rattle.json5_types.specs.ValueMeanings.{Datum, object, text}
use Rattle.cli_check.specs.declared.drafts.Draft.{Draft}
use Rattle.cli_check.specs.declared.drafts.Draft.TheVariants as drafts
use Rattle.cli_check.specs.Naming.{schema_name}

abbrev pub draft_word : Draft → List ℕ
draft_word drafts.Draft7 = codes "7"
draft_word drafts.Draft2019 = codes "2019-09"
draft_word drafts.Draft2020 = codes "2020-12"

-- what `$schema` says of it
abbrev pub draft_uri : Draft → List ℕ
draft_uri drafts.Draft7 = codes "http://json-schema.org/draft-07/schema#"
draft_uri drafts.Draft2019 = codes "https://json-schema.org/draft/2019-09/schema"
draft_uri drafts.Draft2020 = codes "https://json-schema.org/draft/2020-12/schema"

-- it is an object without `$schema`
abbrev pub lacks_draft : Datum → Bool
lacks_draft x = is_some (fields_in x) && not (is_some (named_of schema_name x))

-- a schema with the draft that is asked for, unless it names its own
abbrev pub drafted : Option Draft → Datum → Datum
drafted None x = x
drafted (Some d) (object fs) = if has_key schema_name fs then object fs else object (put_named schema_name (text (chars (draft_uri d))) fs)
drafted (Some d) x = x
