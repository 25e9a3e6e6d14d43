-- What is read of a value and of what is left of a bracket, step by step, without its trees.
use Rattle.std.proofs.Common.{◌≡◌, ℕ, suc, ◌≤◌, Bool, true, false, cond, ◌||◌, List, [], ◌∷◌, length, refl, ap, ◌∙◌, arith, Some}
use Rattle.std.specs.Prelude.{◌==◌}
use Rattle.json5_grammar.specs.Faults.Codes.{ErrorCode, EofParsingBool, EofParsingNull, EofParsingValue, ExpectedBool, ExpectedNull, ExpectedValue, ExpectedComma, TooDeep}
use Rattle.json5_grammar.specs.Faults.Fronts.{BracketKind, of_array, of_object, opening}
use Rattle.json5_grammar.specs.Faults.Tokens.{is_sign, begins_number}
use Rattle.json5_grammar.specs.Language.Strings.{is_quote}
use Rattle.json5_grammar.specs.Language.Trees.{Tree, Trees, Members, null, boolean, text, array, object, no_more, more, no_member, member}
use Rattle.json5_grammar.specs.Language.Values.{null_text, true_text, false_text}
use Rattle.json5_grammar.specs.Model.Reading.{Read, got, bad, here, inner, and_then, placed, word_at}
use Rattle.json5_grammar.specs.Model.ReadBlanks.{skip, between}
use Rattle.json5_grammar.specs.Model.ReadNumbers as numbers
use Rattle.json5_grammar.specs.Model.ReadTexts.{key, string}
use Rattle.json5_grammar.specs.Model.ReadValues.{read_elements, read_members, close_or, element_at, after_element, colon_at, value_after, member_at, key_or, after_member, as_leaf, value_with, read}
use Rattle.json5_grammar.specs.Model.ReadSteps.{forget, colon_after, member_head, entry_head, entry_at, comma_at, separator, next_value, rest_of_bracket, value_and_rest}
use Rattle.json5_grammar.proofs.ValueHeads.{array_reader, object_reader, read_step, value_text, value_number}
use Rattle.json5_grammar.proofs.ValuesSound.{IsGap, gap_found}
use Rattle.json5_grammar.proofs.FoundPlaces.{Found}
use Rattle.json5_grammar.proofs.ValueTurns.{gap_no_longer, member_same, pair_same, same_items, same_entries}

abbrev all_items : ℕ → List ℕ → Read Trees
all_items d z = read_elements (read d) (suc (length z)) z

abbrev all_entries : ℕ → List ℕ → Read Members
all_entries d z = read_members (read d) (suc (length z)) z

-- a value comes next, or the bracket was closed
abbrev pub turn : BracketKind → ℕ → Bool → List ℕ → Read (Unit {0})
turn k d goes y = cond goes (value_and_rest k d y) (got tt y)

-- ---- one element

forget_last : (t : Tree) (m : Read Trees) → forget (and_then m (λ ts z. got (more t ts) z)) ≡ forget m
forget_last t (got ts z) = refl
forget_last t (bad e p) = refl

forget_after : (k : List ℕ → Read Trees) (t : Tree) (m : Read (Unit {0})) → forget (and_then m (λ u y. and_then (after_element k y) (λ ts z. got (more t ts) z))) ≡ forget (and_then m (λ u y. after_element k y))
forget_after k t (got u y) = forget_last t (after_element k y)
forget_after k t (bad e p) = refl

forget_member : (k : List ℕ → Read Trees) (m : Read Tree)
    → forget (and_then m (λ t r. and_then (skip between r) (λ u y. and_then (after_element k y) (λ ts z. got (more t ts) z)))) ≡ and_then (forget m) (λ u r. forget (and_then (skip between r) (λ u y. after_element k y)))
forget_member k (got t r) = forget_after k t (skip between r)
forget_member k (bad e p) = refl

array_member : (d n : ℕ) (y : List ℕ) → length y ≤ n → forget (element_at (read d) (read_elements (read d) n) y) ≡ value_and_rest of_array d y
unfolding rest_of_bracket
array_member d n y l =
    ap forget (member_same d (read_elements (read d) n) (all_items d) y (λ z s. same_items d n (suc (length z)) z (omega arith) (omega arith)))
    ∙ forget_member (all_items d) (read d y)

-- ---- one pair

forget_last_pair : (u : List ℕ) (escape_free : Bool) (t : Tree) (m : Read Members) → forget (and_then m (λ ps z. got (member u escape_free t ps) z)) ≡ forget m
forget_last_pair u escape_free t (got ps z) = refl
forget_last_pair u escape_free t (bad e p) = refl

forget_after_pair : (k : List ℕ → Read Members) (a : List ℕ × Bool) (t : Tree) (m : Read (Unit {0})) → forget (and_then m (λ u y. and_then (after_member k y) (λ ps z. got (member a.0 a.1 t ps) z))) ≡ forget (and_then m (λ u y. after_member k y))
forget_after_pair k a t (got u y) = forget_last_pair a.0 a.1 t (after_member k y)
forget_after_pair k a t (bad e p) = refl

forget_pair : (k : List ℕ → Read Members) (a : List ℕ × Bool) (m : Read Tree)
    → forget (and_then m (λ t r. and_then (skip between r) (λ u y. and_then (after_member k y) (λ ps z. got (member a.0 a.1 t ps) z)))) ≡ and_then (forget m) (λ u r. forget (and_then (skip between r) (λ u y. after_member k y)))
forget_pair k a (got t r) = forget_after_pair k a t (skip between r)
forget_pair k a (bad e p) = refl

-- a key's value is what comes after its colon
pub value_after_colon : (val : List ℕ → Read Tree) (x : List ℕ) → value_after val x ≡ and_then (colon_after x) (λ u q. val q)
value_after_colon val x = by_gap (skip between x)
  where
    by_colon : (m : Read (Unit {0})) → and_then m (λ v z. and_then (skip between z) (λ w q. val q)) ≡ and_then (and_then m (λ v z. skip between z)) (λ u q. val q)
    by_colon (got u z) = refl
    by_colon (bad e p) = refl

    by_gap : (m : Read (Unit {0})) → and_then m (λ u y. and_then (colon_at y) (λ v z. and_then (skip between z) (λ w q. val q))) ≡ and_then (and_then m (λ u y. and_then (colon_at y) (λ v z. skip between z))) (λ u q. val q)
    by_gap (got u y) = by_colon (colon_at y)
    by_gap (bad e p) = refl

object_value : (d : ℕ) (a : List ℕ × Bool) (m : Read (Unit {0}))
    → forget (and_then (and_then m (λ u q. read d q)) (λ t r. and_then (skip between r) (λ u y. and_then (after_member (all_entries d) y) (λ ps z. got (member a.0 a.1 t ps) z))))
    ≡ and_then (and_then m (λ u y. got true y)) (turn of_object d)
unfolding rest_of_bracket
object_value d a (got u q) = forget_pair (all_entries d) a (read d q)
object_value d a (bad e p) = refl

object_key : (d : ℕ) (m : Read (List ℕ × Bool))
    → forget (and_then m (λ a r. and_then (value_after (read d) r) (λ t y. and_then (skip between y) (λ u z. and_then (after_member (all_entries d) z) (λ ps q. got (member a.0 a.1 t ps) q)))))
    ≡ and_then (and_then m (λ a r. and_then (colon_after r) (λ u y. got true y))) (turn of_object d)
object_key d (got a r) =
    ap (λ m. forget (and_then m (λ t y. and_then (skip between y) (λ u z. and_then (after_member (all_entries d) z) (λ ps q. got (member a.0 a.1 t ps) q))))) (value_after_colon (read d) r)
    ∙ object_value d a (colon_after r)
object_key d (bad e p) = refl

object_member : (d n : ℕ) (c : ℕ) (r : List ℕ) → length (c ∷ r) ≤ n → forget (member_at (read d) (read_members (read d) n) (c ∷ r)) ≡ and_then (member_head (c ∷ r)) (turn of_object d)
object_member d n c r l =
    ap forget (pair_same d (read_members (read d) n) (all_entries d) c r (λ z s. same_entries d n (suc (length z)) z (omega arith) (omega arith)))
    ∙ object_key d (key (c ∷ r))

-- ---- an element or a pair, or the closing bracket

closes_or : {A : Type 0} (k : BracketKind) (d : ℕ) (b : Bool) (nothing : A) (r : List ℕ) (m : Read A) (n : Read Bool) → forget m ≡ and_then n (turn k d) → forget (cond b (got nothing r) m) ≡ and_then (cond b (got false r) n) (turn k d)
closes_or k d true nothing r m n e = refl
closes_or k d false nothing r m n e = e

array_head : (d n : ℕ) (y : List ℕ) → length y ≤ n → forget (close_or (element_at (read d) (read_elements (read d) n) y) y) ≡ and_then (entry_head of_array y) (turn of_array d)
array_head d n [] l = array_member d n [] l
array_head d n (c ∷ r) l = closes_or of_array d (c == 93) no_more r (element_at (read d) (read_elements (read d) n) (c ∷ r)) (got true (c ∷ r)) (array_member d n (c ∷ r) l)

object_head : (d n : ℕ) (y : List ℕ) → length y ≤ n → forget (key_or (member_at (read d) (read_members (read d) n) y) y) ≡ and_then (entry_head of_object y) (turn of_object d)
object_head d n [] l = refl
object_head d n (c ∷ r) l = closes_or of_object d (c == 125) no_member r (member_at (read d) (read_members (read d) n) (c ∷ r)) (member_head (c ∷ r)) (object_member d n c r l)

after_gap : {A : Type 0} (k : BracketKind) (d : ℕ) (x : List ℕ) (f : List ℕ → Read A) (g : List ℕ → Read Bool) → ((y : List ℕ) → length y ≤ length x → forget (f y) ≡ and_then (g y) (turn k d))
    → forget (and_then (skip between x) (λ u y. f y)) ≡ and_then (and_then (skip between x) (λ u y. g y)) (turn k d)
after_gap k d x f g h = by_answer (skip between x) (gap_found x)
  where
    by_answer : (m : Read (Unit {0})) → Found (IsGap x) x m → forget (and_then m (λ u y. f y)) ≡ and_then (and_then m (λ u y. g y)) (turn k d)
    by_answer (got u y) gap = h y (gap_no_longer x y u gap)
    by_answer (bad e p) gap = refl

first_step : (k : BracketKind) (d : ℕ) (x : List ℕ) → rest_of_bracket k false d x ≡ and_then (entry_at k x) (turn k d)
unfolding rest_of_bracket entry_at read_elements read_members
first_step of_array d x = after_gap of_array d x (λ y. close_or (element_at (read d) (read_elements (read d) (length x)) y) y) (entry_head of_array) (array_head d (length x))
first_step of_object d x = after_gap of_object d x (λ y. key_or (member_at (read d) (read_members (read d) (length x)) y) y) (entry_head of_object) (object_head d (length x))

-- ---- after an element or a pair

comma_or : {A : Type 0} (k : BracketKind) (d : ℕ) (a b : Bool) (nothing : A) (c : ℕ) (r : List ℕ) (m : Read A) → forget m ≡ rest_of_bracket k false d r
    → forget (cond a m (cond b (got nothing r) (bad (Some ExpectedComma) (here (c ∷ r)))))
    ≡ and_then (and_then (cond a (got true r) (cond b (got false r) (bad (Some ExpectedComma) (here (c ∷ r))))) (λ goes y. cond goes (entry_at k y) (got false y))) (turn k d)
comma_or k d true b nothing c r m e = e ∙ first_step k d r
comma_or k d false true nothing c r m e = refl
comma_or k d false false nothing c r m e = refl

array_items : (d : ℕ) (r : List ℕ) → forget (all_items d r) ≡ rest_of_bracket of_array false d r
unfolding rest_of_bracket
array_items d r = refl

object_entries : (d : ℕ) (r : List ℕ) → forget (all_entries d r) ≡ rest_of_bracket of_object false d r
unfolding rest_of_bracket
object_entries d r = refl

array_comma : (d : ℕ) (y : List ℕ) → forget (after_element (all_items d) y) ≡ and_then (and_then (comma_at of_array y) (λ goes y. cond goes (entry_at of_array y) (got false y))) (turn of_array d)
array_comma d [] = refl
array_comma d (c ∷ r) = comma_or of_array d (c == 44) (c == 93) no_more c r (all_items d r) (array_items d r)

object_comma : (d : ℕ) (y : List ℕ) → forget (after_member (all_entries d) y) ≡ and_then (and_then (comma_at of_object y) (λ goes y. cond goes (entry_at of_object y) (got false y))) (turn of_object d)
object_comma d [] = refl
object_comma d (c ∷ r) = comma_or of_object d (c == 44) (c == 125) no_member c r (all_entries d r) (object_entries d r)

grouped : (k : BracketKind) (d : ℕ) (m : Read (Unit {0}))
    → and_then (and_then m (λ u y. and_then (comma_at k y) (λ goes y. cond goes (entry_at k y) (got false y)))) (turn k d)
    ≡ and_then (and_then (and_then m (λ u y. comma_at k y)) (λ goes y. cond goes (entry_at k y) (got false y))) (turn k d)
grouped k d (got u y) = refl
grouped k d (bad e p) = refl

later_step : (k : BracketKind) (d : ℕ) (x : List ℕ) → rest_of_bracket k true d x ≡ and_then (next_value k true x) (turn k d)
unfolding rest_of_bracket separator
later_step of_array d x =
    after_gap of_array d x (after_element (all_items d)) (λ y. and_then (comma_at of_array y) (λ goes y. cond goes (entry_at of_array y) (got false y))) (λ y l. array_comma d y)
    ∙ grouped of_array d (skip between x)
later_step of_object d x =
    after_gap of_object d x (after_member (all_entries d)) (λ y. and_then (comma_at of_object y) (λ goes y. cond goes (entry_at of_object y) (got false y))) (λ y l. object_comma d y)
    ∙ grouped of_object d (skip between x)

-- what is left of a bracket is a value and then the rest, or the closing sign
pub rest_step : (k : BracketKind) (comma_due : Bool) (d : ℕ) (x : List ℕ) → rest_of_bracket k comma_due d x ≡ and_then (next_value k comma_due x) (turn k d)
rest_step k false d x = first_step k d x
rest_step k true d x = later_step k d x

-- ---- a value by its first character

forget_array : (q : List ℕ) (m : Read Trees) → forget (placed q (and_then m (λ ts y. got (array ts) y))) ≡ placed q (forget m)
forget_array q (got ts y) = refl
forget_array q (bad e (here p)) = refl
forget_array q (bad e inner) = refl

forget_object : (q : List ℕ) (m : Read Members) → forget (placed q (and_then m (λ ps y. got (object ps) y))) ≡ placed q (forget m)
forget_object q (got ps y) = refl
forget_object q (bad e (here p)) = refl
forget_object q (bad e inner) = refl

-- a bracket is opened, and what is left of it is read
pub read_opened : (k : BracketKind) (d : ℕ) (r : List ℕ) → forget (read (suc d) (opening k ∷ r)) ≡ placed (opening k ∷ r) (rest_of_bracket k false d r)
unfolding rest_of_bracket
read_opened of_array d r = ap forget (read_step (suc d) (91 ∷ r)) ∙ forget_array (91 ∷ r) (all_items d r)
read_opened of_object d r = ap forget (read_step (suc d) (123 ∷ r)) ∙ forget_object (123 ∷ r) (all_entries d r)

-- or it is one too many
pub read_too_deep : (k : BracketKind) (r : List ℕ) → forget (read 0 (opening k ∷ r)) ≡ bad (Some TooDeep) (here (opening k ∷ r))
read_too_deep of_array r = ap forget (read_step 0 (91 ∷ r))
read_too_deep of_object r = ap forget (read_step 0 (123 ∷ r))

forget_leaf : {A : Type 0} (f : A → Tree) (m : Read A) → forget (as_leaf f m) ≡ forget m
forget_leaf f (got a r) = refl
forget_leaf f (bad e p) = refl

forget_if : {A : Type 0} (b : Bool) (m k : Read A) → forget (cond b m k) ≡ cond b (forget m) (forget k)
forget_if true m k = refl
forget_if false m k = refl

-- a word is read as it is for any other answer
pub forget_word : {A : Type 0} (eof wrong : ErrorCode) (a : A) (ks x : List ℕ) → forget (word_at eof wrong a ks x) ≡ word_at eof wrong (tt {0}) ks x
unfolding word_at
forget_word eof wrong a [] x = refl
forget_word eof wrong a (k ∷ ks) [] = refl
forget_word eof wrong a (k ∷ ks) (c ∷ r) =
    forget_if (c == k) (word_at eof wrong a ks r) (bad (Some wrong) (here (c ∷ r)))
    ∙ ap (λ m. cond (c == k) m (bad (Some wrong) (here (c ∷ r)))) (forget_word eof wrong a ks r)

-- nothing is left
pub read_missing : (d : ℕ) → forget (read d []) ≡ bad (Some EofParsingValue) inner
read_missing d = ap forget (read_step d [])

-- an `n`, a `t` or an `f` begins a word
pub read_word_null : (d : ℕ) (r : List ℕ) → forget (read d (110 ∷ r)) ≡ word_at EofParsingNull ExpectedNull tt null_text (110 ∷ r)
read_word_null d r = ap forget (read_step d (110 ∷ r)) ∙ forget_word EofParsingNull ExpectedNull null null_text (110 ∷ r)

pub read_word_true : (d : ℕ) (r : List ℕ) → forget (read d (116 ∷ r)) ≡ word_at EofParsingBool ExpectedBool tt true_text (116 ∷ r)
read_word_true d r = ap forget (read_step d (116 ∷ r)) ∙ forget_word EofParsingBool ExpectedBool (boolean true) true_text (116 ∷ r)

pub read_word_false : (d : ℕ) (r : List ℕ) → forget (read d (102 ∷ r)) ≡ word_at EofParsingBool ExpectedBool tt false_text (102 ∷ r)
read_word_false d r = ap forget (read_step d (102 ∷ r)) ∙ forget_word EofParsingBool ExpectedBool (boolean false) false_text (102 ∷ r)

-- a quote begins a text
pub read_quote : (d c : ℕ) (r : List ℕ) → is_quote c ≡ true → forget (read d (c ∷ r)) ≡ forget (string (c ∷ r))
read_quote d c r h = ap forget (read_step d (c ∷ r) ∙ value_text (array_reader d) (object_reader d) c r h) ∙ forget_leaf (λ a. text a.0 a.1) (string (c ∷ r))

-- a sign, a digit, a point, `I` or `N` begins a number
pub read_numeral : (d c : ℕ) (r : List ℕ) → (is_sign c || begins_number c) ≡ true → forget (read d (c ∷ r)) ≡ forget (numbers.number (c ∷ r))
read_numeral d c r h = ap forget (read_step d (c ∷ r) ∙ value_number (array_reader d) (object_reader d) c r h) ∙ forget_leaf Tree.number (numbers.number (c ∷ r))

-- any other character begins nothing
pub read_nothing : (d c : ℕ) (r : List ℕ) → (c == 110) ≡ false → (c == 116) ≡ false → (c == 102) ≡ false → is_quote c ≡ false → (is_sign c || begins_number c) ≡ false → (c == 91) ≡ false → (c == 123) ≡ false
    → forget (read d (c ∷ r)) ≡ bad (Some ExpectedValue) (here (c ∷ r))
read_nothing d c r n t f q m a o =
    let nothing : value_with (array_reader d) (object_reader d) (c ∷ r) ≡ bad (Some ExpectedValue) (here (c ∷ r)) = rw (q, m, n, t, f, a, o) refl in
    ap forget (read_step d (c ∷ r) ∙ nothing)
