-- The path of a place in a text: the brackets that the tokens before it leave open, each with an index or a key.
-- A promise rests on this.
use Rattle.std.specs.Prelude.{◌≡◌, ◌≤◌, ◌<◌, ◌-◌, ◌+◌, ℕ, Bool, true, false, List, [], ◌∷◌, ◌++◌, length, Option, Some, None, if◌then◌else◌, codes, decimal}
use Rattle.std.specs.Str.{chars, encode_utf8_all}
use Rattle.json5_grammar.specs.Language.Characters.{comma_sign, colon_sign, left_bracket, right_bracket, left_brace, right_brace}
use Rattle.json5_grammar.specs.Language.Trees.{Tree}
use Rattle.json5_grammar.specs.Language.Values.{Reads}
use Rattle.json5_grammar.specs.Model.Collections.{IsSign, ReadsKey}
use Rattle.json5_grammar.specs.Written.Quoting.{is_name}
use Rattle.json5_walk.specs.declared.next.Next.{Next}
use Rattle.json5_walk.specs.declared.next.Next.TheVariants as next
use Rattle.json5_walk.specs.Nexts.{takes_value}

-- what is open: the document; an array, with the index of the element that is due or was begun; an object, with the
-- key that was read after its brace or its last comma, if one was
pub data Crumb : Type 0 where
  whole : Crumb
  element : ℕ → Crumb
  member : Option (List ℕ) → Crumb

-- the closing bracket that may come
abbrev pub closing : Next → Crumb → Option ℕ
closing next.Element (element n) = Some right_bracket
closing next.Comma (element n) = Some right_bracket
closing next.Key (member k) = Some right_brace
closing next.Comma (member k) = Some right_brace
closing _ _ = None

-- what is due and what is open, the innermost first, before the front of x; and after a token of x, which leaves y
pub data Step : Next → List Crumb → List ℕ → Next → List Crumb → List ℕ → Type 0 where
  value : {d : Next} {c : Crumb} {o : List Crumb} {x y : List ℕ} (t : Tree) → takes_value d ≡ true → Reads x t y
      → Step d (c ∷ o) x next.Comma (c ∷ o) y
  array : {d : Next} {o : List Crumb} {x y : List ℕ} → takes_value d ≡ true → IsSign left_bracket x y
      → Step d o x next.Element (element 0 ∷ o) y
  object : {d : Next} {o : List Crumb} {x y : List ℕ} → takes_value d ≡ true → IsSign left_brace x y
      → Step d o x next.Key (member None ∷ o) y
  key : {c : Crumb} {o : List Crumb} {x y : List ℕ} (u : List ℕ) (escape_free : Bool) → ReadsKey x u escape_free y
      → Step next.Key (c ∷ o) x next.Colon (member (Some (encode_utf8_all u)) ∷ o) y
  colon : {o : List Crumb} {x y : List ℕ} → IsSign colon_sign x y → Step next.Colon o x next.Value o y
  next_element : {n : ℕ} {o : List Crumb} {x y : List ℕ} → IsSign comma_sign x y
      → Step next.Comma (element n ∷ o) x next.Element (element (n + 1) ∷ o) y
  next_member : {k : Option (List ℕ)} {o : List Crumb} {x y : List ℕ} → IsSign comma_sign x y
      → Step next.Comma (member k ∷ o) x next.Key (member None ∷ o) y
  closes : {d : Next} {b c : Crumb} {o : List Crumb} {x y : List ℕ} (s : ℕ) → closing d b ≡ Some s → IsSign s x y
      → Step d (b ∷ c ∷ o) x next.Comma (c ∷ o) y

-- tokens lead from the start of x to y
pub data Leads (x : List ℕ) : Next → List Crumb → List ℕ → Type 0 where
  here : Leads x next.Value (whole ∷ []) x
  further : {d e : Next} {o p : List Crumb} {y z : List ℕ} → Leads x d o y → Step d o y e p z → Leads x e p z

-- where the rest of a text begins, in bytes
abbrev pub start_of : List ℕ → List ℕ → ℕ
start_of text rest = length (encode_utf8_all text) - length (encode_utf8_all rest)

-- this is open at the offset: the tokens that end by it lead there, and no other token ends by it
pub record IsOpenAt (text : List ℕ) (offset : ℕ) (o : List Crumb) : Type 0 where
  pub due : Next
  pub rest : List ℕ
  pub leads : Leads text due o rest
  pub by : start_of text rest ≤ offset
  pub last : (e : Next) (p : List Crumb) (y : List ℕ) → Step due o rest e p y → offset < start_of text y

-- a key of these bytes: bare if it is a name, else in quotes
abbrev pub shown_key : List ℕ → List ℕ
shown_key name = if is_name (chars name) then name else codes "'" ++ name ++ codes "'"

-- a point between two steps of a path
abbrev pub point_after : List ℕ → List ℕ
point_after [] = []
point_after (c ∷ path) = codes "."

-- what is put after the path of the outer brackets
abbrev pub crumb_text : List ℕ → Crumb → List ℕ
crumb_text path whole = []
crumb_text path (element n) = codes "[" ++ decimal n ++ codes "]"
crumb_text path (member None) = []
crumb_text path (member (Some name)) = point_after path ++ shown_key name

abbrev pub path_text : List Crumb → List ℕ
path_text [] = []
path_text (c ∷ o) = path_text o ++ crumb_text (path_text o) c

-- the path of what is open at the offset
abbrev pub IsPathAt : List ℕ → ℕ → List ℕ → Type 0
IsPathAt text offset path = (o : List Crumb) × IsOpenAt text offset o × (path ≡ path_text o)
