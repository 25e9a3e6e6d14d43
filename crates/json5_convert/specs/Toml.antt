-- What a TOML document means as a value, and what TOML has of a value.
-- A promise rests on this.
use Rattle.std.specs.Prelude.{◌≡◌, ◌≤◌, ◌⊎◌, ◌&&◌, if◌then◌else◌, nat_eq, ℕ, ℤ, FitsSigned, Bool, true, false, Float, List, Option, None, Some, is_some, ⊤}
use Rattle.std.specs.Cmp.Lexicographic.{pointwise, slice_cmp}
use Rattle.std.specs.Float.{binary64, float_is_infinite}
use Rattle.std.specs.Int.{w64}
use Rattle.std.specs.Str.{encode_utf8_all}
use Rattle.json5_grammar.specs.Language.Numbers.{Number, whole, decimal, Decimal}
use Rattle.json5_types.specs.declared.error.Error.{Error}
use Rattle.json5_types.specs.Errors.{LacksMemory}
use Rattle.json5_types.specs.NumberDecimals.{is_infinity}
use Rattle.json5_types.specs.ValueLookups.{fits}
use Rattle.json5_types.specs.ValueMeanings.{Datum, null, boolean, number, text, array, object, Items, no_item, item, Fields, no_field, field}
use Rattle.json5_numbers.specs.Floats.{nearest_to}
use Rattle.toml_datetime.specs.declared.datetime.Datetime.{Datetime}
use Rattle.toml_datetime.specs.declared.datetime.Time.{Time}
use Rattle.toml_datetime.specs.Parse.{parse_datetime}
use Rattle.toml_datetime.specs.Text.{datetime_text}
use Rattle.toml.specs.Data as toml
use Rattle.toml.specs.Errors.{IsMemory}
use Rattle.toml.specs.declared.de.error.Error as de
use Rattle.json5_convert.specs.declared.toml_texts.Lack.{Lack}
use Rattle.json5_convert.specs.declared.toml_texts.Lack.TheVariants as lack
use Rattle.toml.specs.Parse.{parse_document}
use Rattle.toml_parser.specs.Strings.{recursion_limit}
use Rattle.std.specs.Ordering.{nat_cmp, match_ordering}

-- a date-time without parts, which no TOML text has
abbrev pub no_time : Datetime
no_time = record { date = None; time = None; offset = None }

-- a whole number is an integer, and a decimal its nearest float
abbrev pub number_data : Number → toml.Data
number_data (whole z) = toml.integer z
number_data (decimal d) = toml.float (nearest_to binary64 d)

-- TOML 1.0.0 has no time without seconds
abbrev pub has_seconds : Option Time → Bool
has_seconds None = true
has_seconds (Some t) = is_some t.second

-- the date-time, where its text is this one
abbrev pub spelled_so : List ℕ → Option Datetime → Option Datetime
spelled_so u None = None
spelled_so u (Some d) = if has_seconds d.time && pointwise nat_eq (datetime_text d) u then Some d else None

-- the date-time, date or time that has this text, to the letter
abbrev pub date_of : List ℕ → Option Datetime
date_of u = spelled_so u (parse_datetime u)

abbrev pub date_or_string : List ℕ → Option Datetime → toml.Data
date_or_string u None = toml.string u
date_or_string u (Some d) = toml.datetime d

-- a string; where dates are asked for, one that is the text of a date is the date
abbrev pub string_data : (dates : Bool) → List ℕ → toml.Data
string_data false u = toml.string u
string_data true u = date_or_string u (date_of u)

-- a value as TOML's data, each part in its order. TOML has no null: that is the date-time without parts
abbrev mutual
  pub data_of : (dates : Bool) → Datum → toml.Data
  data_of dates null = toml.datetime no_time
  data_of dates (boolean b) = toml.boolean b
  data_of dates (number n) = number_data n
  data_of dates (text u) = string_data dates (encode_utf8_all u)
  data_of dates (array xs) = toml.array (data_items dates xs)
  data_of dates (object fs) = toml.table (data_members dates fs)

  pub data_items : (dates : Bool) → Items → toml.Items
  data_items dates no_item = toml.no_items
  data_items dates (item x xs) = toml.item (data_of dates x) (data_items dates xs)

  pub data_members : (dates : Bool) → Fields → toml.Members
  data_members dates no_field = toml.no_members
  data_members dates (field u x fs) = toml.member (encode_utf8_all u) (data_of dates x) (data_members dates fs)

-- each date-time is a string of its text
abbrev mutual
  pub undated : toml.Data → toml.Data
  undated (toml.datetime t) = toml.string (datetime_text t)
  undated (toml.array ds) = toml.array (undated_items ds)
  undated (toml.table ms) = toml.table (undated_members ms)
  undated d = d

  pub undated_items : toml.Items → toml.Items
  undated_items toml.no_items = toml.no_items
  undated_items (toml.item d ds) = toml.item (undated d) (undated_items ds)

  pub undated_members : toml.Members → toml.Members
  undated_members toml.no_members = toml.no_members
  undated_members (toml.member k d ms) = toml.member k (undated d) (undated_members ms)

-- the text is a TOML document, and the value has its data, with dates as strings
abbrev pub IsOfToml : (input : List ℕ) → Datum → Type 0
IsOfToml input x = (ms : toml.Members) × (parse_document input ≡ Some ms) × (data_of false x ≡ undated (toml.table ms))

-- memory ran out, or the text is no TOML document
abbrev pub RefusesToml : (input : List ℕ) → Error → Type 0
RefusesToml input e = LacksMemory e ⊎ (parse_document input ≡ None)

-- the members with this one, at its place in the order of the keys' bytes
abbrev pub put : (k : List ℕ) → toml.Data → toml.Members → toml.Members
put k d toml.no_members = toml.member k d toml.no_members
put k d (toml.member l e ms) = match_ordering (slice_cmp nat_cmp k l) (toml.member k d (toml.member l e ms)) (toml.member l d ms) (toml.member l e (put k d ms))

-- each table in the order of its keys
abbrev mutual
  pub ordered : toml.Data → toml.Data
  ordered (toml.array ds) = toml.array (ordered_items ds)
  ordered (toml.table ms) = toml.table (ordered_among toml.no_members ms)
  ordered d = d

  pub ordered_items : toml.Items → toml.Items
  ordered_items toml.no_items = toml.no_items
  ordered_items (toml.item d ds) = toml.item (ordered d) (ordered_items ds)

  -- one after another put among these
  pub ordered_among : (done : toml.Members) → toml.Members → toml.Members
  ordered_among done toml.no_members = done
  ordered_among done (toml.member k d ms) = ordered_among (put k (ordered d) done) ms

-- the float of a decimal that isn't infinite isn't either
abbrev pub IsTomlNumber : Number → Type 0
IsTomlNumber (whole z) = FitsSigned w64 z
IsTomlNumber (decimal d) = float_is_infinite (nearest_to binary64 d) ≡ true → is_infinity d ≡ true

-- what TOML has: no null, whole numbers of 64 bits, no decimal that is too large for a float, each key of an object once
abbrev mutual
  pub IsToml : (dates : Bool) → Datum → Type 0
  IsToml dates null = ⊥
  IsToml dates (boolean b) = ⊤
  IsToml dates (number n) = IsTomlNumber n
  IsToml dates (text u) = ⊤
  IsToml dates (array xs) = AreToml dates xs
  IsToml dates (object fs) = AreTomlAmong dates toml.no_members fs

  pub AreToml : (dates : Bool) → Items → Type 0
  AreToml dates no_item = ⊤
  AreToml dates (item x xs) = IsToml dates x × AreToml dates xs

  -- members after these
  pub AreTomlAmong : (dates : Bool) → (done : toml.Members) → Fields → Type 0
  AreTomlAmong dates done no_field = ⊤
  AreTomlAmong dates done (field u x fs) = IsToml dates x × (toml.get_member (encode_utf8_all u) done ≡ None) × AreTomlAmong dates (put (encode_utf8_all u) (ordered (data_of dates x)) done) fs

-- an object of what TOML has
abbrev pub IsTomlDocument : (dates : Bool) → Datum → Type 0
IsTomlDocument dates (object fs) = (fits (object fs) ≡ true) × IsToml dates (object fs)
IsTomlDocument dates _ = ⊥

-- the text is a TOML document of the value's data, if it nests no deeper than a TOML text is read; and with dates as
-- strings these data are the value's own
pub record IsTomlOf (dates : Bool) (x : Datum) (made : List ℕ) : Type 0 where
  pub held : IsTomlDocument dates x
  pub members : toml.Members
  pub means : ordered (data_of dates x) ≡ toml.table members
  pub own : undated (toml.table members) ≡ ordered (data_of false x)
  pub reads_back : toml.members_depth members ≤ recursion_limit → parse_document made ≡ Some members

-- memory ran out, or TOML hasn't the value
abbrev pub RefusesTomlOf : (dates : Bool) → Datum → Error → Type 0
RefusesTomlOf dates x e = LacksMemory e ⊎ (IsTomlDocument dates x → ⊥)

-- ---- private clauses alone cite these

-- memory ran out, or the fault of the text is another
abbrev pub IsFaultOf : de.Error → Error → Type 0
IsFaultOf fault e = LacksMemory e ⊎ (IsMemory fault → ⊥)

-- something is lacking that isn't memory
abbrev pub lacks : Lack → Bool
lacks lack.NoMemory = false
lacks (lack.At path what) = true

-- where it isn't memory, this isn't so
abbrev pub IsLack : Type 0 → Lack → Type 0
IsLack held l = lacks l ≡ true → held → ⊥

abbrev pub KeepsLack : Lack → Lack → Type 0
KeepsLack old new = lacks new ≡ true → lacks old ≡ true

-- memory ran out, or something else is lacking
abbrev pub IsErrorOf : Lack → Error → Type 0
IsErrorOf l e = LacksMemory e ⊎ (lacks l ≡ true)

-- TOML has the value, as this
abbrev pub HasPart : Bool → Datum → toml.Data → Type 0
HasPart dates x d = IsToml dates x × (d ≡ ordered (data_of dates x))

abbrev pub HasItems : Bool → Items → toml.Items → Type 0
HasItems dates xs ds = AreToml dates xs × (ds ≡ ordered_items (data_items dates xs))

abbrev pub HasMembers : Bool → Fields → toml.Members → Type 0
HasMembers dates fs ms = AreTomlAmong dates toml.no_members fs × (ms ≡ ordered_among toml.no_members (data_members dates fs))

-- memory ran out
abbrev pub IsMemoryLack : Lack → Type 0
IsMemoryLack l = lacks l ≡ false

-- the number, or it isn't one of 64 bits
abbrev pub HasInteger : ℤ → ℤ → Type 0
HasInteger z n = FitsSigned w64 z × (n ≡ z)

abbrev pub HasFloat : Decimal → Float → Type 0
HasFloat d x = IsTomlNumber (decimal d) × (x ≡ nearest_to binary64 d)

-- the text is a document of this table, if that nests no deeper than a text is read
abbrev pub ReadsAsTable : toml.Members → (made : List ℕ) → Type 0
ReadsAsTable ms made = toml.members_depth ms ≤ recursion_limit → parse_document made ≡ Some ms
