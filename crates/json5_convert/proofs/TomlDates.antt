-- Dates that were strings are the same strings again.
use Rattle.std.proofs.Common.{◌≡◌, ℕ, Bool, true, false, List, Option, Some, None, Ordering, Less, Equal, Greater, refl, sym, ap, ◌∙◌, String, string_bytes}
use Rattle.std.specs.Prelude.{◌&&◌, if◌then◌else◌, nat_eq}
use Rattle.std.proofs.lemmas.Bool.{and_parts}
use Rattle.std.proofs.lemmas.Str.{encodes-chars, IsUtf8-string_bytes}
use Rattle.std.specs.Cmp.Lexicographic.{pointwise, slice_cmp, bytes_decides}
use Rattle.std.specs.Ordering.{nat_cmp, match_ordering}
use Rattle.std.specs.Str.{chars, encode_utf8_all}
use Rattle.std.specs.declared.alloc.Global.{Global}
use Rattle.json5_grammar.specs.Language.Numbers.{whole, decimal}
use Rattle.json5_types.proofs.ValuesCompared.{view-String}
use Rattle.json5_types.specs.ValueMeanings.{Datum, null, boolean, number, text, array, object, Items, no_item, item, Fields, no_field, field, value_of}
use Rattle.json5_types.specs.declared.value.Value as value
use Rattle.toml.specs.Data as toml
use Rattle.toml_datetime.specs.Parse.{parse_datetime}
use Rattle.toml_datetime.specs.Text.{datetime_text}
use Rattle.toml_datetime.specs.declared.datetime.Datetime.{Datetime}
use Rattle.json5_convert.specs.Toml.{data_of, data_items, data_members, date_of, date_or_string, has_seconds, spelled_so, string_data, undated, undated_items, undated_members, put, ordered, ordered_items, ordered_among, IsToml, AreToml, AreTomlAmong}

-- ---- a string

is_text : (u : List ℕ) (d : Datetime) (b : Bool) → (has_seconds d.time && pointwise nat_eq (datetime_text d) u) ≡ b
    → undated (date_or_string u (if b then Some d else None)) ≡ toml.string u
is_text u d true e = ap toml.string ((bytes_decides (datetime_text d) u).0 (and_parts (has_seconds d.time) (pointwise nat_eq (datetime_text d) u) e).1)
is_text u d false e = refl

spelled_back : (u : List ℕ) (d : Option Datetime) → undated (date_or_string u (spelled_so u d)) ≡ toml.string u
spelled_back u None = refl
spelled_back u (Some d) = is_text u d (has_seconds d.time && pointwise nat_eq (datetime_text d) u) refl

string_back : (dates : Bool) (u : List ℕ) → undated (string_data dates u) ≡ toml.string u
string_back false u = refl
string_back true u = spelled_back u (parse_datetime u)

-- a string has one part
ordered_or : (u : List ℕ) (d : Option Datetime) → ordered (date_or_string u d) ≡ date_or_string u d
ordered_or u None = refl
ordered_or u (Some d) = refl

one_part : (dates : Bool) (u : List ℕ) → ordered (string_data dates u) ≡ string_data dates u
one_part false u = refl
one_part true u = ordered_or u (date_of u)

pub ordered_string : (dates : Bool) (s : String Global) → ordered (data_of dates (value_of (value.String s))) ≡ string_data dates (string_bytes s)
ordered_string dates s =
    ap (λ d. ordered (data_of dates d)) (view-String s) ∙ one_part dates (encode_utf8_all (chars (string_bytes s)))
    ∙ ap (string_data dates) (encodes-chars (string_bytes s) (IsUtf8-string_bytes s))

-- ---- a value

mutual
  back : (dates : Bool) (x : Datum) → IsToml dates x → undated (data_of dates x) ≡ data_of false x
  back dates null h = absurd h
  back dates (boolean b) h = refl
  back dates (number (whole z)) h = refl
  back dates (number (decimal d)) h = refl
  back dates (text u) h = string_back dates (encode_utf8_all u)
  back dates (array xs) h = ap toml.array (items_back dates xs h)
  back dates (object fs) h = ap toml.table (members_back dates toml.no_members fs h)

  items_back : (dates : Bool) (xs : Items) → AreToml dates xs → undated_items (data_items dates xs) ≡ data_items false xs
  items_back dates no_item h = refl
  items_back dates (item x xs) h = rw (back dates x h.0, items_back dates xs h.1) refl

  members_back : (dates : Bool) (done : toml.Members) (fs : Fields) → AreTomlAmong dates done fs → undated_members (data_members dates fs) ≡ data_members false fs
  members_back dates done no_field h = refl
  members_back dates done (field u x fs) h = rw (back dates x h.0, members_back dates (put (encode_utf8_all u) (ordered (data_of dates x)) done) fs h.2) refl

-- ---- the order of members

undated_match : (o : Ordering) (a b c : toml.Members) → undated_members (match_ordering o a b c) ≡ match_ordering o (undated_members a) (undated_members b) (undated_members c)
undated_match Less a b c = refl
undated_match Equal a b c = refl
undated_match Greater a b c = refl

undated_put : (k : List ℕ) (d : toml.Data) (ms : toml.Members) → undated_members (put k d ms) ≡ put k (undated d) (undated_members ms)
undated_put k d toml.no_members = refl
undated_put k d (toml.member l e ms) = undated_match (slice_cmp nat_cmp k l) _ _ _ ∙ rw (undated_put k d ms) refl

mutual
  undated_ordered : (d : toml.Data) → undated (ordered d) ≡ ordered (undated d)
  undated_ordered (toml.string u) = refl
  undated_ordered (toml.integer z) = refl
  undated_ordered (toml.float x) = refl
  undated_ordered (toml.boolean b) = refl
  undated_ordered (toml.datetime t) = refl
  undated_ordered (toml.array ds) = ap toml.array (undated_ordered_items ds)
  undated_ordered (toml.table ms) = ap toml.table (undated_ordered_among toml.no_members ms)

  undated_ordered_items : (ds : toml.Items) → undated_items (ordered_items ds) ≡ ordered_items (undated_items ds)
  undated_ordered_items toml.no_items = refl
  undated_ordered_items (toml.item d ds) = rw (undated_ordered d, undated_ordered_items ds) refl

  undated_ordered_among : (done ms : toml.Members) → undated_members (ordered_among done ms) ≡ ordered_among (undated_members done) (undated_members ms)
  undated_ordered_among done toml.no_members = refl
  undated_ordered_among done (toml.member k d ms) =
      undated_ordered_among (put k (ordered d) done) ms
      ∙ ap (λ z. ordered_among z (undated_members ms)) (undated_put k (ordered d) done ∙ ap (λ e. put k e (undated_members done)) (undated_ordered d))

-- the document's data with dates as strings are the value's own
pub own_document : (dates : Bool) (x : Datum) (fs : Fields) (ms : toml.Members) → x ≡ object fs → AreTomlAmong dates toml.no_members fs → ms ≡ ordered_among toml.no_members (data_members dates fs)
    → undated (toml.table ms) ≡ ordered (data_of false x)
own_document dates x fs ms e h m =
    ap (λ z. undated (toml.table z)) m ∙ undated_ordered (data_of dates (object fs)) ∙ ap ordered (back dates (object fs) h) ∙ ap (λ z. ordered (data_of false z)) (sym e)
