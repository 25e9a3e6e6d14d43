-- Fronts: prefixes of documents, cut between tokens, with the open brackets and what is expected.
-- A promise rests on this.
use Rattle.std.specs.Prelude.{◌≡◌, ℕ, ◌+◌, ◌≤◌, ◌<◌, Bool, true, false, List, [], ◌∷◌, ◌++◌, length}
use Rattle.json5_grammar.specs.Language.Characters.{comma_sign, colon_sign, left_bracket, right_bracket, left_brace, right_brace}
use Rattle.json5_grammar.specs.Language.Blanks.{Gap}
use Rattle.json5_grammar.specs.Language.Names.{Key}
use Rattle.json5_grammar.specs.Language.Trees.{Tree, depth}
use Rattle.json5_grammar.specs.Language.Values.{Val, Stops}

pub data BracketKind : Type 0 where
  of_array : BracketKind
  of_object : BracketKind

-- an open bracket, and what comes before it
pub record Bracket : Type 0 where
  pub kind : BracketKind
  pub before : List ℕ

pub data Expects : Type 0 where
  value : Expects
  element : Expects
  key : Expects
  colon : Expects
  comma : Expects
  end : Expects

abbrev pub takes_value : Expects → Bool
takes_value value = true
takes_value element = true
takes_value key = false
takes_value colon = false
takes_value comma = false
takes_value end = false

-- after a value; after an opening bracket or a comma
abbrev pub after : List Bracket → Expects
after [] = end
after (b ∷ o) = comma

abbrev pub member_of : BracketKind → Expects
member_of of_array = element
member_of of_object = key

abbrev pub opening : BracketKind → ℕ
opening of_array = left_bracket
opening of_object = left_brace

abbrev pub closing : BracketKind → ℕ
closing of_array = right_bracket
closing of_object = right_brace

-- f is a document's prefix and r the rest of the input; the open brackets, the innermost first; what is expected
pub data Front (limit : ℕ) : List ℕ → List ℕ → List Bracket → Expects → Type 0 where
  start : {f r : List ℕ} → Gap f r → Front limit f r [] value
  after_value : {g s w r : List ℕ} {o : List Bracket} {a : Expects} {t : Tree} → Front limit g (s ++ (w ++ r)) o a → takes_value a ≡ true
      → Val s t → Stops s (w ++ r) → length o + depth t ≤ limit → Gap w r
      → Front limit (g ++ (s ++ w)) r o (after o)
  after_bracket : {g w r : List ℕ} {o : List Bracket} {a : Expects} (k : BracketKind) → Front limit g (opening k ∷ w ++ r) o a
      → takes_value a ≡ true → length o < limit → Gap w r
      → Front limit (g ++ opening k ∷ w) r (record { kind = k; before = g } ∷ o) (member_of k)
  after_comma : {g w r : List ℕ} {b : Bracket} {o : List Bracket} → Front limit g (comma_sign ∷ w ++ r) (b ∷ o) comma → Gap w r
      → Front limit (g ++ comma_sign ∷ w) r (b ∷ o) (member_of b.kind)
  after_key : {g k w r u : List ℕ} {o : List Bracket} {escape_free : Bool} → Front limit g (k ++ (w ++ r)) o key → Key k (w ++ r) u escape_free → Gap w r
      → Front limit (g ++ (k ++ w)) r o colon
  after_colon : {g w r : List ℕ} {o : List Bracket} → Front limit g (colon_sign ∷ w ++ r) o colon → Gap w r
      → Front limit (g ++ colon_sign ∷ w) r o value
