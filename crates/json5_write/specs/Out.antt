-- The output of a tree, and where it stops.
-- A promise rests on this.
-- Each element or member of a collection is on its own line, indented by two spaces a level, and a comma follows it.
use Rattle.std.specs.Prelude.{ℕ, ◌+◌, ◌*◌, List, [], ◌∷◌, ◌++◌, Bool, true, false, replicate, nat_lt, cond}
use Rattle.json5_grammar.specs.Language.Characters.{line_feed, space, comma_sign, colon_sign, left_bracket, right_bracket, left_brace, right_brace}
use Rattle.json5_grammar.specs.Language.Numbers.{Number}
use Rattle.json5_grammar.specs.Written.NumberText.{number_text}
use Rattle.json5_grammar.specs.Written.Quoting.{quoted_text, key_text}
use Rattle.json5_grammar.specs.Language.Documents.{max_depth}
use Rattle.json5_grammar.specs.Language.Values.{null_text, true_text, false_text}
use Rattle.json5_write.specs.WritableNumbers.{is_writable}
use Rattle.json5_write.specs.WrittenTrees as written
use Rattle.json5_write.specs.WrittenTrees.{WrittenKey, named, bad, Written, Elements, no_element, element, Fields, no_field, field}

-- whether the output is whole, or stops before a key, a bracket, or what is no number of these types
pub data Stop : Type 0 where
  whole : Stop
  invalid_key : Stop
  too_deep : Stop
  no_number : Stop

-- the codes of its characters, and how it stops
pub record Out : Type 0 where
  pub text : List ℕ
  pub stop : Stop

abbrev pub piece : List ℕ → Out
piece s = record { text = s; stop = whole }

abbrev pub stopped : Stop → Out
stopped s = record { text = []; stop = s }

-- this output, and then the other if this one is whole
abbrev pub followed_by : List ℕ → Stop → Out → Out
followed_by s whole o = record { text = s ++ o.text; stop = o.stop }
followed_by s invalid_key o = record { text = s; stop = invalid_key }
followed_by s too_deep o = record { text = s; stop = too_deep }
followed_by s no_number o = record { text = s; stop = no_number }

infixr 10 ◌then◌
abbrev pub ◌then◌ : Out → Out → Out
a then b = followed_by a.text a.stop b

-- a line feed, and the spaces of a level
abbrev pub line : ℕ → List ℕ
line d = line_feed ∷ replicate (2 * d) space

abbrev pub bool_text : Bool → List ℕ
bool_text true = true_text
bool_text false = false_text

abbrev pub number_out : Number → Out
number_out n = cond (is_writable n) (piece (number_text n)) (stopped no_number)

abbrev pub key_out : WrittenKey → Out
key_out (named u) = piece (key_text u)
key_out bad = stopped invalid_key

-- what opens a collection within d others
abbrev pub opened_by : ℕ → ℕ → ℕ → Out
opened_by limit d bracket = cond (nat_lt d limit) (piece (bracket ∷ [])) (stopped too_deep)

-- what closes it: the bracket alone if nothing was written in it
abbrev pub closed_by : ℕ → Bool → ℕ → Out
closed_by d true bracket = piece (line d ++ bracket ∷ [])
closed_by d false bracket = piece (bracket ∷ [])

-- an element of a list, within d brackets
abbrev pub element_out : ℕ → Out → Out
element_out d o = piece (line d) then (o then piece (comma_sign ∷ []))

-- a key of an object, within d brackets, and what follows it
abbrev pub key_part : ℕ → WrittenKey → Out
key_part d k = piece (line d) then key_out k

abbrev pub value_part : Out → Out
value_part o = piece (colon_sign ∷ space ∷ []) then (o then piece (comma_sign ∷ []))

-- the output of a tree within d brackets, of which `limit` may be open
abbrev mutual
  pub out : ℕ → Written → ℕ → Out
  out limit written.null d = piece null_text
  out limit (written.boolean b) d = piece (bool_text b)
  out limit (written.number n) d = number_out n
  out limit (written.text u) d = piece (quoted_text u)
  out limit (written.array ts) d = opened_by limit d left_bracket then elements_out limit ts d false
  out limit (written.object fs) d = opened_by limit d left_brace then fields_out limit fs d false

  -- what follows the bracket that opens a list; the Bool says that something was written in it already
  pub elements_out : ℕ → Elements → ℕ → Bool → Out
  elements_out limit no_element d started = closed_by d started right_bracket
  elements_out limit (element t ts) d started = element_out (d + 1) (out limit t (d + 1)) then elements_out limit ts d true

  pub fields_out : ℕ → Fields → ℕ → Bool → Out
  fields_out limit no_field d started = closed_by d started right_brace
  fields_out limit (field k t fs) d started = key_part (d + 1) k then (value_part (out limit t (d + 1)) then fields_out limit fs d true)

-- the output of a whole tree, within a limit and at the full one
abbrev pub text_within : ℕ → Written → Out
text_within limit t = out limit t 0

abbrev pub written_text : Written → Out
written_text = text_within max_depth

-- a key of an object within d brackets, and its value
abbrev pub entry_out : ℕ → ℕ → WrittenKey → Written → Out
entry_out limit d k t = key_part d k then value_part (out limit t d)

-- within d others, the object of a variant up to the bracket that opens what the variant holds
abbrev pub variant_opening : ℕ → List ℕ → ℕ → ℕ → Out
variant_opening limit name bracket d = opened_by limit d left_brace then (key_part (d + 1) (named name) then (piece (colon_sign ∷ space ∷ []) then opened_by limit (d + 1) bracket))
