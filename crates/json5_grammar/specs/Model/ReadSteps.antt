-- The steps of reading a value without its tree: what comes before and after the values in a bracket.
-- A promise rests on this.
use Rattle.std.specs.Prelude.{ℕ, suc, Bool, true, false, cond, ◌==◌, List, [], ◌∷◌, length, Option, Some, None}
use Rattle.json5_grammar.specs.Language.Characters.{comma_sign}
use Rattle.json5_grammar.specs.Faults.Codes.{EofParsingObject, ExpectedComma}
pub use Rattle.json5_grammar.specs.Faults.{eof_in}
use Rattle.json5_grammar.specs.Faults.Fronts.{BracketKind, of_array, of_object, closing}
use Rattle.json5_grammar.specs.Model.Reading.{Read, and_then, here, inner, got, bad}
use Rattle.json5_grammar.specs.Model.ReadBlanks.{skip, between}
use Rattle.json5_grammar.specs.Model.ReadTexts.{key}
use Rattle.json5_grammar.specs.Language.Trees.{Trees, Members, more, no_member, member}
use Rattle.json5_grammar.specs.Model.ReadValues.{read, read_elements, read_members, after_element, after_member, colon_at}

-- the same, without what was read
abbrev pub forget : {A : Type 0} → Read A → Read (Unit {0})
forget (got a r) = got tt r
forget (bad e p) = bad e p

-- ---- the steps: true where a value comes next, and false where the bracket was closed

-- blanks, the colon and blanks
abbrev pub colon_after : List ℕ → Read (Unit {0})
colon_after x = and_then (skip between x) (λ u y. and_then (colon_at y) (λ v z. skip between z))

-- a key and its colon
abbrev pub member_head : List ℕ → Read Bool
member_head x = and_then (key x) (λ a r. and_then (colon_after r) (λ u y. got true y))

-- where an element or a member may begin, after the blanks; a member's key and colon are passed over
abbrev pub entry_head : BracketKind → List ℕ → Read Bool
entry_head of_array [] = got true []
entry_head of_object [] = bad (Some EofParsingObject) inner
entry_head of_array (c ∷ r) = cond (c == closing of_array) (got false r) (got true (c ∷ r))
entry_head of_object (c ∷ r) = cond (c == closing of_object) (got false r) (member_head (c ∷ r))

unfoldable pub entry_at : BracketKind → List ℕ → Read Bool
entry_at k x = and_then (skip between x) (λ u y. entry_head k y)

-- after an element or a member: true where a comma was taken
abbrev pub comma_at : BracketKind → List ℕ → Read Bool
comma_at k [] = bad (Some (eof_in k)) inner
comma_at k (c ∷ r) = cond (c == comma_sign) (got true r) (cond (c == closing k) (got false r) (bad (Some ExpectedComma) (here (c ∷ r))))

unfoldable pub separator : BracketKind → List ℕ → Read Bool
separator k x = and_then (skip between x) (λ u y. comma_at k y)

-- the next value, after a comma where one is due
abbrev pub next_value : BracketKind → Bool → List ℕ → Read Bool
next_value k false x = entry_at k x
next_value k true x = and_then (separator k x) (λ more y. cond more (entry_at k y) (got false y))

-- ---- what is left of a bracket of the kind, its values nested no deeper than the number

unfoldable pub rest_of_bracket : BracketKind → Bool → ℕ → List ℕ → Read (Unit {0})
rest_of_bracket of_array false d x = forget (read_elements (read d) (suc (length x)) x)
rest_of_bracket of_object false d x = forget (read_members (read d) (suc (length x)) x)
rest_of_bracket of_array true d x = forget (and_then (skip between x) (λ u y. after_element (λ z. read_elements (read d) (suc (length z)) z) y))
rest_of_bracket of_object true d x = forget (and_then (skip between x) (λ u y. after_member (λ z. read_members (read d) (suc (length z)) z) y))

-- a value, and then what is left of its bracket
abbrev pub value_and_rest : BracketKind → ℕ → List ℕ → Read (Unit {0})
value_and_rest k d x = and_then (forget (read d x)) (λ u y. rest_of_bracket k true d y)

-- ---- the same with the trees

-- elements and the closing bracket; and the same after an element
abbrev pub trees_of : ℕ → List ℕ → Read Trees
trees_of d x = read_elements (read d) (suc (length x)) x

abbrev pub trees_after : ℕ → List ℕ → Read Trees
trees_after d x = and_then (skip between x) (λ u y. after_element (trees_of d) y)

-- members and the closing brace; and the same after a member
abbrev pub read_pairs : ℕ → List ℕ → Read Members
read_pairs d x = read_members (read d) (suc (length x)) x

abbrev pub pairs_after : ℕ → List ℕ → Read Members
pairs_after d x = and_then (skip between x) (λ u y. after_member (read_pairs d) y)

-- where a member may begin, after the blanks: its key, past the colon; None where the brace was closed
abbrev pub key_head : List ℕ → Read (Option (List ℕ × Bool))
key_head [] = bad (Some EofParsingObject) inner
key_head (c ∷ r) = cond (c == closing of_object) (got None r) (and_then (key (c ∷ r)) (λ a r. and_then (colon_after r) (λ u y. got (Some a) y)))

unfoldable pub key_at : List ℕ → Read (Option (List ℕ × Bool))
key_at x = and_then (skip between x) (λ u y. key_head y)

-- a value and the elements after it
abbrev pub first_of_trees : ℕ → List ℕ → Read Trees
first_of_trees d x = and_then (read d x) (λ t y. and_then (trees_after d y) (λ ts z. got (more t ts) z))

-- a value of this key and the members after it
abbrev pub first_of_pairs : ℕ → List ℕ × Bool → List ℕ → Read Members
first_of_pairs d a x = and_then (read d x) (λ t y. and_then (pairs_after d y) (λ ps z. got (member a.0 a.1 t ps) z))

-- a value comes next, or the bracket was closed
abbrev pub goes_on_with : {A : Type 0} → A → (List ℕ → Read A) → Bool → List ℕ → Read A
goes_on_with nothing f goes y = cond goes (f y) (got nothing y)

abbrev pub member_or_end : ℕ → Option (List ℕ × Bool) → List ℕ → Read Members
member_or_end d None y = got no_member y
member_or_end d (Some a) y = first_of_pairs d a y
