-- What comes before a fault's part begins a document.
use Rattle.std.proofs.Common.{◌≡◌, ℕ, ◌≤◌, Bool, true, List, [], ◌∷◌, ◌++◌, length, refl, ap, sym, ◌∙◌, append_assoc, arith, subst, ◌⊎◌, inl, inr, Option}
use Rattle.std.proofs.lemmas.List.{append-nil}
use Rattle.json5_grammar.specs.Faults.Codes.{ErrorCode, Shown}
use Rattle.json5_grammar.specs.Faults.Blames.{StandsIn}
use Rattle.json5_grammar.specs.Language.Documents.{Doc, Begins}
use Rattle.json5_grammar.specs.Language.Names.{Ident, Key, IsName}
use Rattle.json5_grammar.specs.Faults.Tokens.{NameFault, StringFault}
use Rattle.json5_grammar.specs.Language.Strings.{Str, IsOpenString}
use Rattle.json5_grammar.specs.Language.Values.{is_text}
use Rattle.json5_grammar.specs.Faults.Fronts.{Bracket, Expects, takes_value, Front, start, after_value, after_bracket, after_comma, after_key, after_colon, key}
use Rattle.json5_grammar.specs.Faults.{FaultAt, in_comment, no_value, value_missing, nested_too_deep, no_comma, comma_missing, no_key, key_missing, no_colon, colon_missing, trailing, in_word, in_number, in_a_string, in_a_name, FaultWhere, fault}
use Rattle.json5_grammar.proofs.CharacterClasses.{colon_no_name}
use Rattle.json5_grammar.proofs.TextContinues.{string_before, name_before}
use Rattle.json5_grammar.proofs.ValuesSound.{text_stops}
use Rattle.json5_grammar.proofs.FrontsAt.{no_gap}
use Rattle.json5_grammar.proofs.FaultParts.{string_in, name_in}
use Rattle.json5_grammar.proofs.FrontsContinue.{front_same, front_begins}

-- as many brackets are open as the limit allows, at most
pub front_room : {limit : ℕ} {f r : List ℕ} {o : List Bracket} {a : Expects} → Front limit f r o a → length o ≤ limit
front_room (start g) = omega arith
front_room (after_value f t v st l g) = omega (arith, l)
front_room (after_bracket k f t l g) = omega (arith, l)
front_room (after_comma f g) = front_room f
front_room (after_key f k g) = front_room f
front_room (after_colon f g) = front_room f

-- a prefix of what begins a document begins it too
begins_before : (limit : ℕ) (f g : List ℕ) → Begins limit (f ++ g) → Begins limit f
begins_before limit f g b =
    record { more = g ++ b.more; tree = b.tree; document = subst (λ z. Doc limit z b.tree) (append_assoc f g b.more) b.document }

module _ (limit : ℕ) (f : List ℕ) (o : List Bracket) (a : Expects) where
  -- nothing is between the front and the part
  before_nothing : {y : List ℕ} → Front limit f y o a → (b : List ℕ) → b ≡ [] → Begins limit (f ++ b)
  before_nothing h b e = subst (Begins limit) (sym (append-nil f) ∙ ap (λ z. f ++ z) (sym e)) (front_begins h)

  -- whole items of a string, where a value is expected
  text_begins : (b u : List ℕ) (q : ℕ) (escape_free : Bool) → Front limit f (b ++ q ∷ []) o a → takes_value a ≡ true → Str (b ++ q ∷ []) u escape_free
      → Begins limit (f ++ b)
  text_begins b u q escape_free h t s =
      let there =
      after_value {w = []} {r = []} (subst (λ z. Front limit f z o a) (sym (append-nil (b ++ q ∷ []))) h) t (is_text s) (text_stops [] s)
      (let l = front_room h in omega (arith, l)) (no_gap []) in
      begins_before limit (f ++ b) (q ∷ [])
      (subst (Begins limit) (ap (λ z. f ++ z) (append-nil (b ++ q ∷ [])) ∙ sym (append_assoc f b (q ∷ []))) (front_begins there))

  -- whole items of a string, where a key is expected
  quoted_key_begins : (b u : List ℕ) (q : ℕ) (escape_free : Bool) → Front limit f (b ++ q ∷ []) o key → Str (b ++ q ∷ []) u escape_free → Begins limit (f ++ b)
  quoted_key_begins b u q escape_free h s =
      let there =
      after_key {w = []} {r = []} (subst (λ z. Front limit f z o key) (sym (append-nil (b ++ q ∷ []))) h) (Key.string_key s) (no_gap []) in
      begins_before limit (f ++ b) (q ∷ [])
      (subst (Begins limit) (ap (λ z. f ++ z) (append-nil (b ++ q ∷ [])) ∙ sym (append_assoc f b (q ∷ []))) (front_begins there))

  -- whole items of a name
  name_begins : (b u : List ℕ) (escape_free : Bool) → Front limit f (b ++ 58 ∷ []) o key → Ident b u escape_free → Begins limit (f ++ b)
  name_begins b u escape_free h i =
      let there = after_key {w = []} {r = 58 ∷ []} h (Key.name_key i colon_no_name) (no_gap (58 ∷ [])) in
      subst (Begins limit) (ap (λ z. f ++ z) (append-nil b)) (front_begins there)

-- ---- whole items of the token that is expected after a front

-- a string, where a value or a key is expected
pub string_continues : (limit : ℕ) (f s r : List ℕ) (o : List Bracket) (a : Expects) → Front limit f (s ++ r) o a
    → (takes_value a ≡ true) ⊎ (a ≡ key) → IsOpenString s → Begins limit (f ++ s)
string_continues limit f [] r o a h t k = before_nothing limit f o a h [] refl
string_continues limit f (c ∷ m) r o a h (inl t) (q, u, escape_free, s) =
    text_begins limit f o a (c ∷ m) u q escape_free (front_same (c ∷ m ++ q ∷ []) refl h) t s
string_continues limit f (c ∷ m) r o a h (inr t) (q, u, escape_free, s) =
    quoted_key_begins limit f o a (c ∷ m) u q escape_free (subst (Front limit f (c ∷ m ++ q ∷ []) o) t (front_same (c ∷ m ++ q ∷ []) refl h)) s

-- a name, where a key is expected
pub name_continues : (limit : ℕ) (f s r : List ℕ) (o : List Bracket) → Front limit f (s ++ r) o key → IsName s → Begins limit (f ++ s)
name_continues limit f [] r o h k = before_nothing limit f o key h [] refl
name_continues limit f (c ∷ m) r o h (u, escape_free, i) = name_begins limit f o key (c ∷ m) u escape_free (front_same (c ∷ m ++ 58 ∷ []) refl h) i

-- ---- what stands before each fault

-- a front before what begins with b
front_before : {limit : ℕ} {f y : List ℕ} {o : List Bracket} {a : Expects} (b p : List ℕ) (how : Shown) → StandsIn y b p how
    → Front limit f y o a → (r : List ℕ) × Front limit f (b ++ r) o a
front_before {limit = limit} {f = f} {o = o} {a = a} b p how (q, e, k) h = (p ++ q, subst (λ z. Front limit f z o a) (e ∙ append_assoc b p q) h)

-- the items before a fault in a string, and in a name
string_begins : {limit : ℕ} {f y b p : List ℕ} {o : List Bracket} {a : Expects} {e : Option ErrorCode} {pl : Option (List ℕ)} {how : Shown}
    → Front limit f y o a → (takes_value a ≡ true) ⊎ (a ≡ key) → StringFault y e pl b p how → Begins limit (f ++ b)
string_begins {limit = limit} {f = f} {b = b} {p = p} {o = o} {a = a} {how = how} h t w = by_items (string_before w)
  where
    by_items : (b ≡ []) ⊎ IsOpenString b → Begins limit (f ++ b)
    by_items (inl k) = before_nothing limit f o a h b k
    by_items (inr k) = let (r, there) = front_before b p how (string_in w) h in string_continues limit f b r o a there t k

name_fault_begins : {limit : ℕ} {f y b p : List ℕ} {o : List Bracket} {e : Option ErrorCode} {pl : Option (List ℕ)} {how : Shown}
    → Front limit f y o key → NameFault y e pl b p how → Begins limit (f ++ b)
name_fault_begins {limit = limit} {f = f} {b = b} {p = p} {o = o} {how = how} h w = by_items (name_before w)
  where
    by_items : (b ≡ []) ⊎ IsName b → Begins limit (f ++ b)
    by_items (inl k) = before_nothing limit f o key h b k
    by_items (inr k) = let (r, there) = front_before b p how (name_in w) h in name_continues limit f b r o there k

-- the part begins where the front ends
whole_front : {limit : ℕ} {f r : List ℕ} {o : List Bracket} {a : Expects} → Front limit f r o a → Begins limit (f ++ [])
whole_front {limit = limit} {f = f} h = subst (Begins limit) (sym (append-nil f)) (front_begins h)

-- a row of the table
row_begins : {limit : ℕ} {f x b p : List ℕ} {o : List Bracket} {a : Expects} {e : Option ErrorCode} {pl : Option (List ℕ)} {how : Shown}
    → Front limit f x o a → FaultAt limit o a x e pl b p how → Begins limit (f ++ b)
row_begins h (in_comment c) = whole_front h
row_begins h (no_value t s b n) = whole_front h
row_begins h (value_missing t) = whole_front h
row_begins h (nested_too_deep t b l) = whole_front h
row_begins h (no_comma k i s n) = whole_front h
row_begins h (comma_missing k i) = whole_front h
row_begins h (no_key s n) = whole_front h
row_begins h key_missing = whole_front h
row_begins h (no_colon s n) = whole_front h
row_begins h colon_missing = whole_front h
row_begins h (trailing s) = whole_front h
row_begins h (in_word t w) = whole_front h
row_begins h (in_number t w) = whole_front h
row_begins h (in_a_string t w) = string_begins h t w
row_begins h (in_a_name w) = name_fault_begins h w

-- what comes before a fault's part begins a document
pub fault_begins : {Where : Expects → Type 0} {limit : ℕ} {x b p : List ℕ} {e : Option ErrorCode} {pl : Option (List ℕ)} {how : Shown}
    → FaultWhere Where limit x e pl b p how → Begins limit b
fault_begins (fault h w t) = row_begins h t
