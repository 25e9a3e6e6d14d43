-- Texts that are sums of numbers with a unit, as `1h30m`.
-- A promise rests on this.
use Rattle.std.specs.Prelude.{◌≡◌, ◌+◌, ◌*◌, ◌/◌, ◌%◌, ◌^◌, ◌==◌, ◌&&◌, ℕ, Bool, not, nat_lt, if◌then◌else◌, List, [], ◌∷◌, ◌++◌, ◌<◌, length, map, take, drop, Option, Some, None, bytes_eq, decimal}
use Rattle.std.specs.Char.{is_ascii_digit}
use Rattle.std.specs.List.{prefix_len}
use Rattle.std.specs.Str.Parse.{IsNumeral, digits_value}
use Rattle.json5_settings_types.specs.declared.sums.Sum.{Sum}
use Rattle.json5_settings_types.specs.declared.units.Unit.{Unit}

-- a unit: its name, and how many of the smallest unit it is
pub record Measure : Type 0 where
  pub name : List ℕ
  pub size : ℕ

-- numbers, each with one of these units behind it: the units stand in this order, each at most once
pub data IsSum : List Measure → List ℕ → ℕ → Type 0 where
  nothing : IsSum [] [] 0
  without : (u : Measure) {us : List Measure} {text : List ℕ} {n : ℕ} → IsSum us text n → IsSum (u ∷ us) text n
  part : (u : Measure) (digits : List ℕ) {us : List Measure} {text : List ℕ} {n : ℕ} → IsNumeral 10 digits → IsSum us text n → IsSum (u ∷ us) (digits ++ (u.name ++ text)) (digits_value 10 digits * u.size + n)

-- ---- the value of a text, computed

abbrev pub is_no_digit : ℕ → Bool
is_no_digit c = not (is_ascii_digit c)

-- the digits in front, and what follows them
abbrev pub front_digits : List ℕ → List ℕ
front_digits text = take (prefix_len is_ascii_digit text) text

abbrev pub after_digits : List ℕ → List ℕ
after_digits text = drop (prefix_len is_ascii_digit text) text

-- what stands before the next digit, and what follows it
abbrev pub front_word : List ℕ → List ℕ
front_word text = take (prefix_len is_no_digit text) text

abbrev pub after_word : List ℕ → List ℕ
after_word text = drop (prefix_len is_no_digit text) text

-- a text's front part, cut into three
pub record IsCut (text digits word rest : List ℕ) : Type 0 where
  pub digits_are : digits ≡ front_digits text
  pub word_is : word ≡ front_word (after_digits text)
  pub rest_is : rest ≡ after_word (after_digits text)

-- these digits and this word are a part of the unit with this name
abbrev pub is_part_of : List ℕ → List ℕ → List ℕ → Bool
is_part_of name digits word = nat_lt 0 (length digits) && bytes_eq word name

-- a number in front has this unit behind it
abbrev pub begins_with : Measure → List ℕ → Bool
begins_with u text = is_part_of u.name (front_digits text) (front_word (after_digits text))

abbrev pub plus : ℕ → Option ℕ → Option ℕ
plus n None = None
plus n (Some m) = Some (n + m)

-- the sum that the text is, if it is one
unfoldable pub sum_of : List Measure → List ℕ → Option ℕ
sum_of [] [] = Some 0
sum_of [] (c ∷ cs) = None
sum_of (u ∷ us) text = if begins_with u text then plus (digits_value 10 (front_digits text) * u.size) (sum_of us (after_word (after_digits text))) else sum_of us text

-- what is below the bound
abbrev pub if_below : ℕ → Option ℕ → Option ℕ
if_below bound None = None
if_below bound (Some n) = if nat_lt n bound then Some n else None

-- what a sum that was read so far comes to, with what the rest is a sum of
abbrev pub comes_to : List Measure → ℕ → List ℕ → Option ℕ
comes_to us total rest = if_below (2 ^ 64) (plus total (sum_of us rest))

-- the same of what was read, where it isn't too large yet
abbrev pub goes_on : List Measure → Option Sum → Option ℕ
goes_on us None = None
goes_on us (Some s) = comes_to us s.total s.rest.now

abbrev pub measure_of : Unit → Measure
measure_of u = record { name = u.name.now; size = u.size }

abbrev pub measures_of : List Unit → List Measure
measures_of units = map measure_of units

-- the greatest units first, each where there is one at least
unfoldable pub parts_text : List Measure → ℕ → List ℕ
parts_text [] n = []
parts_text (u ∷ us) n = if nat_lt n u.size then parts_text us n else decimal (n / u.size) ++ (u.name ++ parts_text us (n % u.size))

-- ---- one number, with one unit

-- a sum of one part, whose unit is one of these
pub data IsAmount : List Measure → List ℕ → ℕ → Type 0 where
  in_first : (u : Measure) {us : List Measure} {text : List ℕ} {n : ℕ} → 0 < length text → IsSum (u ∷ []) text n → IsAmount (u ∷ us) text n
  in_later : (u : Measure) {us : List Measure} {text : List ℕ} {n : ℕ} → IsAmount us text n → IsAmount (u ∷ us) text n

abbrev pub or_else : Option ℕ → Option ℕ → Option ℕ
or_else None o = o
or_else (Some n) o = Some n

-- what the text is an amount of, if it has a character
unfoldable pub amount_of : List Measure → List ℕ → Option ℕ
amount_of [] text = None
amount_of (u ∷ us) text = or_else (comes_to (u ∷ []) 0 text) (amount_of us text)

-- the first unit of which n is a whole number
unfoldable pub amount_text : List Measure → ℕ → List ℕ
amount_text [] n = []
amount_text (u ∷ us) n = if n % u.size == 0 then parts_text (u ∷ []) n else amount_text us n
