-- The value of an entry is reached: of an element at once, of a member over its key and its colon.
use Rattle.std.proofs.Common.{◌≡◌, ℕ, Bool, true, false, cond, List, [], ◌∷◌, refl, ap, sym, ◌∙◌, Option, Some, None}
use Rattle.std.specs.Prelude.{◌==◌, slice_get, Result, Ok, Err}
use Rattle.json5_grammar.specs.declared.error_code.ErrorCode.TheVariants as codes
use Rattle.json5_grammar.specs.Faults.Fronts.{BracketKind, of_array, of_object, closing}
use Rattle.json5_grammar.specs.Model.Reading.{Read, inner, got, bad, and_then}
use Rattle.json5_grammar.specs.Model.ReadBlanks.{skip, between}
use Rattle.json5_grammar.specs.Model.ReadSteps.{forget, colon_after, member_head, entry_head, entry_at, separator, next_value}
use Rattle.json5_grammar.specs.Model.ReadTexts.{key, string, identifier}
use Rattle.json5_grammar.specs.Language.Strings.{is_quote}
use Rattle.json5_types.specs.declared.error.Error.{Error}
use Rattle.json5_types.specs.Errors.{code, kind_of, error_position}
use Rattle.json5_tokens.specs.Cursor.{Cursor}
use Rattle.json5_read.specs.Entries.{entry_front, entry_start, key_and_colon, next_entry}
use Rattle.json5_read.specs.ModelSteps.{SameText, RefusesRead, Gave, Steps}
use Rattle.json5_read.proofs.EntrySteps.{start_or_end}
use Rattle.json5_read.proofs.ModelSteps.{none_next, some_next, blames_made, then_step, first_step_refused, same_step, took_step, refused_step, took_nothing}

-- ---- before the value

pub key_missing : key [] ≡ bad (Some codes.EofParsingObject) inner
unfolding key
key_missing = refl

-- what comes before the value of an entry that begins here
abbrev pub head_of : BracketKind → List ℕ → Read Bool
head_of of_array y = got true y
head_of of_object y = member_head y

abbrev pub head_or_end : BracketKind → Bool → List ℕ → Read Bool
head_or_end k goes y = cond goes (head_of k y) (got false y)

head_is : (k : BracketKind) (y : List ℕ) → entry_head k y ≡ and_then (entry_front k y) (head_or_end k)
head_is of_array [] = refl
head_is of_object [] = sym (ap (λ m. and_then m (λ a r. and_then (colon_after r) (λ u y. got true y))) key_missing)
head_is of_array (c ∷ r) = by_test (c == closing of_array)
  where
    by_test : (b : Bool) → cond b (got false r) (got true (c ∷ r)) ≡ and_then (cond b (got false r) (got true (c ∷ r))) (head_or_end of_array)
    by_test true = refl
    by_test false = refl
head_is of_object (c ∷ r) = by_test (c == closing of_object)
  where
    by_test : (b : Bool) → cond b (got false r) (member_head (c ∷ r)) ≡ and_then (cond b (got false r) (got true (c ∷ r))) (head_or_end of_object)
    by_test true = refl
    by_test false = refl

start_is : (k : BracketKind) (m : Read (Unit {0})) → and_then m (λ u y. entry_head k y) ≡ and_then (and_then m (λ u y. entry_front k y)) (head_or_end k)
start_is k (got u y) = head_is k y
start_is k (bad c p) = refl

entry_is : (k : BracketKind) (x : List ℕ) → entry_at k x ≡ and_then (entry_start k x) (head_or_end k)
unfolding entry_at
entry_is k x = start_is k (skip between x)

pub next_is : (k : BracketKind) (comma_due : Bool) (x : List ℕ) → next_value k comma_due x ≡ and_then (next_entry k comma_due x) (head_or_end k)
next_is k false x = entry_is k x
next_is k true x = by_comma (separator k x)
  where
    by_comma : (m : Read Bool) → and_then m (λ more y. cond more (entry_at k y) (got false y)) ≡ and_then (and_then m (start_or_end k)) (head_or_end k)
    by_comma (got true y) = entry_is k y
    by_comma (got false y) = refl
    by_comma (bad c p) = refl

pub next_refused : (k : BracketKind) (comma_due : Bool) (old new : Cursor) (e : Error) → RefusesRead old.input (next_entry k comma_due old.unread) e → SameText old new → Steps (next_value k comma_due old.unread) old new (Err e)
next_refused k comma_due old new e b g = same_step old new (next_value k comma_due old.unread) _ (Err e) (next_is k comma_due old.unread) (first_step_refused old new (next_entry k comma_due old.unread) (head_or_end k) e b g)

pub next_closed : (k : BracketKind) (comma_due goes : Bool) (old new : Cursor) → goes ≡ false → Gave (next_entry k comma_due old.unread) goes old new → Steps (next_value k comma_due old.unread) old new (Ok false)
next_closed k comma_due goes old new e g =
    took_step old new (next_value k comma_due old.unread) false g.taken (next_is k comma_due old.unread ∙ ap (λ m. and_then m (head_or_end k)) (g.reads ∙ ap (λ b. got b new.unread) e)) g.took

next_found : (k l : BracketKind) (comma_due goes : Bool) (old mid new : Cursor) (result : Result Bool Error) → k ≡ l → goes ≡ true → Gave (next_entry k comma_due old.unread) goes old mid → Steps (head_of l mid.unread) mid new result → Steps (next_value k comma_due old.unread) old new result
next_found k l comma_due goes old mid new result e is g s =
    same_step old new (next_value k comma_due old.unread) _ result (next_is k comma_due old.unread)
    (then_step old mid new (next_entry k comma_due old.unread) goes (head_or_end k) result g
    (same_step mid new (head_or_end k goes mid.unread) (head_of l mid.unread) result (ap (λ b. head_or_end k b mid.unread) is ∙ ap (λ z. head_of z mid.unread) e) s))

-- an element is its value
pub element_reached : (k : BracketKind) (comma_due goes : Bool) (old mid : Cursor) → k ≡ of_array → goes ≡ true → Gave (next_entry k comma_due old.unread) goes old mid → Steps (next_value k comma_due old.unread) old mid (Ok true)
element_reached k comma_due goes old mid e is g = next_found k of_array comma_due goes old mid mid (Ok true) e is g (took_step mid mid (got true mid.unread) true [] refl (took_nothing mid mid refl))

-- a member is a key, a colon and its value
pub head_named : (y : List ℕ) → member_head y ≡ and_then (key_and_colon y) (λ u z. got true z)
head_named y = by_key (key y)
  where
    by_key : (m : Read (List ℕ × Bool)) → and_then m (λ a r. and_then (colon_after r) (λ u y. got true y)) ≡ and_then (and_then (forget m) (λ u r. colon_after r)) (λ u z. got true z)
    by_key (got a r) = refl
    by_key (bad e p) = refl

module _ (k : BracketKind) (comma_due goes : Bool) (old mid : Cursor) (e : k ≡ of_object) (is : goes ≡ true) (g : Gave (next_entry k comma_due old.unread) goes old mid) where
  of_member : (new : Cursor) (result : Result Bool Error) → Steps (and_then (key_and_colon mid.unread) (λ u y. got true y)) mid new result → Steps (next_value k comma_due old.unread) old new result
  of_member new result s = next_found k of_object comma_due goes old mid new result e is g (same_step mid new (member_head mid.unread) _ result (head_named mid.unread) s)

  -- its name is refused
  pub name_refused : (new : Cursor) (own : Error) → RefusesRead mid.input (key_and_colon mid.unread) own → SameText mid new → Steps (next_value k comma_due old.unread) old new (Err own)
  name_refused new own b f = of_member new (Err own) (first_step_refused mid new (key_and_colon mid.unread) (λ u y. got true y) own b f)

  -- its value is next
  pub member_reached : (new : Cursor) (u : Unit {0}) → Gave (key_and_colon mid.unread) u mid new → Steps (next_value k comma_due old.unread) old new (Ok true)
  member_reached new u name =
      of_member new (Ok true) (took_step mid new (and_then (key_and_colon mid.unread) (λ u y. got true y)) true name.taken (ap (λ m. and_then m (λ u y. got true y)) name.reads) name.took)

-- ---- keys

pub key_at_end : (old : Cursor) (next : Option ℕ) (e : Error) → next ≡ slice_get old.unread 0 → next ≡ None → kind_of e ≡ code codes.EofParsingObject → error_position e ≡ None → Steps (forget (key old.unread)) old old (Err e)
key_at_end old next e peeked is kind place =
    refused_step old old (forget (key old.unread)) e
    (blames_made old.input (forget (key old.unread)) e codes.EofParsingObject inner (ap forget (ap key (none_next old.unread (sym peeked ∙ is)) ∙ key_missing)) (λ e. absurd (cc)) kind place)
    refl

pub key_string : (c : ℕ) (r : List ℕ) → is_quote c ≡ true → key (c ∷ r) ≡ string (c ∷ r)
unfolding key
key_string c r h = rw h refl

pub key_name : (c : ℕ) (r : List ℕ) → is_quote c ≡ false → key (c ∷ r) ≡ identifier (c ∷ r)
unfolding key
key_name c r h = rw h refl

pub key_is_string : (old new : Cursor) (result : Result (Unit {0}) Error) (next : Option ℕ) (c : ℕ) (b : Bool) → next ≡ slice_get old.unread 0 → next ≡ Some c → b ≡ is_quote c → b ≡ true
    → ((d : ℕ) (r : List ℕ) → old.unread ≡ d ∷ r → is_quote d ≡ true → Steps (forget (string old.unread)) old new result) → Steps (forget (key old.unread)) old new result
key_is_string old new result next c b peeked is test true_is steps =
    let (r, x) = some_next old.unread c (sym peeked ∙ is) in
    let quote : is_quote c ≡ true = sym test ∙ true_is in
    same_step old new (forget (key old.unread)) (forget (string old.unread)) result (ap forget (ap key x ∙ key_string c r quote ∙ sym (ap string x))) (steps c r x quote)

pub key_is_name : (old new : Cursor) (result : Result (Unit {0}) Error) (next : Option ℕ) (c : ℕ) (b : Bool) → next ≡ slice_get old.unread 0 → next ≡ Some c → b ≡ is_quote c → b ≡ false
    → Steps (forget (identifier old.unread)) old new result → Steps (forget (key old.unread)) old new result
key_is_name old new result next c b peeked is test false_is steps =
    let (r, x) = some_next old.unread c (sym peeked ∙ is) in
    same_step old new (forget (key old.unread)) (forget (identifier old.unread)) result (ap forget (ap key x ∙ key_name c r (sym test ∙ false_is) ∙ sym (ap identifier x))) steps
