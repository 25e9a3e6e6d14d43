-- How a value that is passed over begins: as a scalar, or with an opening bracket.
use Rattle.std.proofs.Common.{◌≡◌, ◌≢◌, ℕ, ◌<◌, Bool, true, false, cond, ◌||◌, List, [], ◌∷◌, length, refl, ap, sym, ◌∙◌, subst, arith, length-append, Option, Some, None}
use Rattle.std.specs.Prelude.{◌==◌, ℤ, slice_get, Result, Ok, Err}
use Rattle.json5_grammar.specs.declared.error_code.ErrorCode.TheVariants as codes
use Rattle.json5_grammar.specs.Language.Characters.{NotBegun}
use Rattle.json5_grammar.specs.Faults.Fronts.{BracketKind, opening}
use Rattle.json5_grammar.specs.Faults.Tokens.{is_sign, begins_number}
use Rattle.json5_grammar.specs.Faults.Positions.{position_after}
use Rattle.json5_grammar.specs.Model.Reading.{here, inner, got, bad, word_at}
use Rattle.json5_grammar.specs.Model.ReadNumbers as reading
use Rattle.json5_grammar.specs.Model.ReadSteps.{forget}
use Rattle.json5_grammar.specs.Model.ReadTexts.{string}
use Rattle.json5_grammar.specs.Model.ReadValues.{read}
use Rattle.json5_grammar.specs.Language.Strings.{is_quote}
use Rattle.json5_grammar.specs.Language.Trees.{Tree}
use Rattle.json5_grammar.proofs.CommonLemmas.{eq_from, same_char}
use Rattle.json5_grammar.proofs.ValueHeads.{val_head}
use Rattle.json5_grammar.proofs.ValuesSound.{IsValue, read_sound}
use Rattle.json5_grammar.proofs.ValueSteps.{read_too_deep, read_missing, read_word_null, read_word_true, read_word_false, read_quote, read_numeral, read_nothing}
use Rattle.std.proofs.lemmas.Bool.{or_parts, both_ways}
use Rattle.std.proofs.lemmas.List.{append-nil}
use Rattle.json5_types.specs.declared.error.Error.{Error}
use Rattle.json5_types.specs.Errors.{code, kind_of, error_position}
use Rattle.json5_tokens.specs.Cursor.{IsPositioned}
use Rattle.json5_tokens.specs.TokenCalls.{TakesWord, PassesString, PassesNumber}
use Rattle.json5_tokens.specs.Cursor.{Cursor, Took, offset_of}
use Rattle.json5_read.specs.declared.kinds.Literal.{Literal}
use Rattle.json5_read.specs.declared.kinds.Literal.TheVariants as literal
use Rattle.json5_read.specs.declared.kinds.ValueKind.{ValueKind}
use Rattle.json5_read.specs.declared.kinds.ValueKind.TheVariants as kind
use Rattle.json5_read.specs.declared.brackets.OpenBracket.{OpenBracket}
use Rattle.json5_read.specs.Brackets.{bracket_of}
use Rattle.json5_read.specs.Kinds.{kind_at, word_of, ends_of, differs_of}
use Rattle.json5_read.specs.declared.brackets.BracketKind.{BracketKind as OwnKind}
use Rattle.json5_read.specs.Opening.{AtScalar, OpenedAt, OpensBracket, OpensKind}
use Rattle.json5_read.specs.SkipSteps.{SkipsOrOpens}
use Rattle.json5_read.specs.ModelSteps.{IsInside, SameText, RefusesRead, Gave, Steps, value_at}
use Rattle.json5_read.proofs.ModelSteps.{same_step, refused_step, forget_got, blames_made, none_next, some_next, counted_before}
use Rattle.json5_read.proofs.TokenSteps.{string_step, number_step, word_step, without}

-- ---- what a character begins

-- what the tests say of each kind
abbrev Tests : Bool → Bool → Bool → Bool → Bool → ValueKind → Type 0
Tests a b d q m (kind.Literal literal.Null) = a ≡ true
Tests a b d q m (kind.Literal literal.True) = b ≡ true
Tests a b d q m (kind.Literal literal.False) = d ≡ true
Tests a b d q m kind.String = q ≡ true
Tests a b d q m kind.Number = m ≡ true
Tests a b d q m kind.Other = (a ≡ false) × (b ≡ false) × (d ≡ false) × (q ≡ false) × (m ≡ false)

kind_tests : (a b d q m : Bool) → Tests a b d q m (cond a (kind.Literal literal.Null) (cond b (kind.Literal literal.True) (cond d (kind.Literal literal.False) (cond q kind.String (cond m kind.Number kind.Other)))))
kind_tests true b d q m = refl
kind_tests false true d q m = refl
kind_tests false false true q m = refl
kind_tests false false false true m = refl
kind_tests false false false false true = refl
kind_tests false false false false false = (refl, refl, refl, refl, refl)

pub tests_of : (c : ℕ) (found k : ValueKind) → found ≡ kind_at c → found ≡ k → Tests (c == 110) (c == 116) (c == 102) (is_quote c) (is_sign c || begins_number c) k
tests_of c found k at is = subst (Tests (c == 110) (c == 116) (c == 102) (is_quote c) (is_sign c || begins_number c)) (sym at ∙ is) (kind_tests (c == 110) (c == 116) (c == 102) (is_quote c) (is_sign c || begins_number c))

-- ---- scalars

-- the character that a literal begins with
abbrev letter_of : Literal → ℕ
letter_of literal.Null = 110
letter_of literal.True = 116
letter_of literal.False = 102

literal_first : (l : Literal) (c : ℕ) → Tests (c == 110) (c == 116) (c == 102) (is_quote c) (is_sign c || begins_number c) (kind.Literal l) → c ≡ letter_of l
literal_first literal.Null c t = eq_from c 110 t
literal_first literal.True c t = eq_from c 116 t
literal_first literal.False c t = eq_from c 102 t

literal_read : (l : Literal) (room : ℕ) (r : List ℕ) → forget (read room (letter_of l ∷ r)) ≡ word_at (ends_of l) (differs_of l) tt (word_of l) (letter_of l ∷ r)
literal_read literal.Null room r = read_word_null room r
literal_read literal.True room r = read_word_true room r
literal_read literal.False room r = read_word_false room r

pub literal_ends : (l : Literal) → ends_of l ≢ codes.Failed
literal_ends literal.Null e = absurd (cc)
literal_ends literal.True e = absurd (cc)
literal_ends literal.False e = absurd (cc)

pub literal_differs : (l : Literal) → differs_of l ≢ codes.Failed
literal_differs literal.Null e = absurd (cc)
literal_differs literal.True e = absurd (cc)
literal_differs literal.False e = absurd (cc)

module _ (room : ℕ) (old new : Cursor) (c : ℕ) (first : slice_get old.unread 0 ≡ Some c) (found : ValueKind) (at : found ≡ kind_at c) where
  pub literal_value : (l : Literal) (result : Result (Unit {0}) Error) → IsInside old → found ≡ kind.Literal l → TakesWord (word_of l) (ends_of l) (differs_of l) old new result → Steps (value_at room old) old new result
  literal_value l result ready is k =
      let (r, x) = some_next old.unread c first in
      let whole : old.unread ≡ letter_of l ∷ r = x ∙ ap (λ z. z ∷ r) (literal_first l c (tests_of c found (kind.Literal l) at is)) in
      same_step old new (value_at room old) (word_at (ends_of l) (differs_of l) tt (word_of l) old.unread) result
      (ap (λ z. forget (read room z)) whole ∙ literal_read l room r ∙ ap (word_at (ends_of l) (differs_of l) tt (word_of l)) (sym whole))
      (word_step (word_of l) (ends_of l) (differs_of l) old new result (literal_ends l) (literal_differs l) ready k)

  pub string_value : (result : Result (Unit {0}) Error) → IsInside old → found ≡ kind.String → PassesString old new result → Steps (value_at room old) old new result
  string_value result ready is k =
      let (r, x) = some_next old.unread c first in
      let quote : is_quote c ≡ true = tests_of c found kind.String at is in
      same_step old new (value_at room old) (forget (string old.unread)) result (ap (λ z. forget (read room z)) x ∙ read_quote room c r quote ∙ ap (λ z. forget (string z)) (sym x)) (string_step old new result c r ready x quote k)

  pub number_value : (result : Result (Option ℤ) Error) → IsInside old → found ≡ kind.Number → PassesNumber old new result → Steps (value_at room old) old new (without result)
  number_value result ready is k =
      let (r, x) = some_next old.unread c first in
      let begins : (is_sign c || begins_number c) ≡ true = tests_of c found kind.Number at is in
      same_step old new (value_at room old) (forget (reading.number old.unread)) (without result) (ap (λ z. forget (read room z)) x ∙ read_numeral room c r begins ∙ ap (λ z. forget (reading.number z)) (sym x)) (number_step old new result c r ready x begins k)

  -- a character that begins no value
  pub other_value : (e : Error) → IsInside old → found ≡ kind.Other → ((c == 91) || (c == 123)) ≡ false → kind_of e ≡ code codes.ExpectedValue → IsPositioned old (Some []) e → new ≡ old → Steps (value_at room old) old new (Err e)
  other_value e ready is none says placed up =
      let (r, x) = some_next old.unread c first in
      let t = tests_of c found kind.Other at is in
      let b = or_parts (c == 91) (c == 123) none in
      refused_step old new (value_at room old) e
      (blames_made old.input (value_at room old) e codes.ExpectedValue (here old.unread)
      (ap (λ z. forget (read room z)) x ∙ read_nothing room c r t.0 t.1 t.2 t.3 t.4 b.0 b.1 ∙ ap (λ z. bad (Some codes.ExpectedValue) (here z)) (sym x))
      (λ e. absurd (cc)) says (ready.before, ready.inside, placed ready.before ready.inside ∙ ap (λ z. Some (position_after z)) (append-nil ready.before)))
      (ap (λ (s : Cursor). s.input) up)

-- nothing is left
pub value_missing : (room : ℕ) (old : Cursor) (next : Option ℕ) (e : Error) → next ≡ slice_get old.unread 0 → next ≡ None → kind_of e ≡ code codes.EofParsingValue → error_position e ≡ None → SkipsOrOpens room old old (Err e)
value_missing room old next e peeked is kind place = record {
  begun = tt;
  refused = blames_made old.input (value_at room old) e codes.EofParsingValue inner (ap (λ z. forget (read room z)) (none_next old.unread (sym peeked ∙ is)) ∙ read_missing room) (λ e. absurd (cc)) kind place;
  same_text = refl;
  shorter = tt;
}

-- ---- how a value begins

pub value_shorter : (d : ℕ) (x r : List ℕ) (u : Unit {0}) → forget (read d x) ≡ got u r → length r < length x
value_shorter d x r u e = let (t, is) = forget_got (read d x) u r e in shorter t (read_sound d x r t is)
  where
    shorter : (t : Tree) → IsValue d x t r → length r < length x
    shorter t (s, split, v, st, l) = let h = val_head v in omega (arith, ap length split, length-append s r, ap length h.is)

pub scalar_passed : (room : ℕ) (old new : Cursor) (u : Unit {0}) → Gave (value_at room old) u old new → SkipsOrOpens room old new (Ok None)
scalar_passed room old new u g = record { begun = g; refused = tt; same_text = tt; shorter = value_shorter room old.unread new.unread u g.reads }

pub scalar_refused : (room : ℕ) (old new : Cursor) (e : Error) → RefusesRead old.input (value_at room old) e → SameText old new → SkipsOrOpens room old new (Err e)
scalar_refused room old new e b g = record { begun = tt; refused = b; same_text = g; shorter = tt }

-- ---- brackets

-- one bracket too many
pub bracket_too_deep : (room : ℕ) (old : Cursor) (k : BracketKind) (e : Error) → IsInside old → slice_get old.unread 0 ≡ Some (opening k) → room ≡ 0 → kind_of e ≡ code codes.TooDeep → IsPositioned old (Some []) e → OpensBracket room old old (Err e)
bracket_too_deep room old k e ready first none kind placed =
    let (r, x) = some_next old.unread (opening k) first in
    record {
      opened = tt;
      refused = blames_made old.input (value_at room old) e codes.TooDeep (here old.unread)
          (ap (λ z. forget (read room z)) x ∙ ap (λ d. forget (read d (opening k ∷ r))) none ∙ read_too_deep k r ∙ ap (λ z. bad (Some codes.TooDeep) (here z)) (sym x))
          (λ e. absurd (cc)) kind
          (ready.before, ready.inside, placed ready.before ready.inside ∙ ap (λ z. Some (position_after z)) (append-nil ready.before));
      same_text = refl;
      full = none;
    }

-- the bracket is taken
pub bracket_opened : (room : ℕ) (old new : Cursor) (bracket : OpenBracket) (c : ℕ) (b : Bool) → IsInside old → slice_get old.unread 0 ≡ Some (opening (bracket_of bracket.kind)) → 0 < room
    → bracket.start ≡ offset_of old → c ≡ opening (bracket_of bracket.kind)
    → (b ≡ true → Took old (c ∷ []) new) → (b ≡ false → (new ≡ old) × NotBegun (λ d. d == c) old.unread) → OpensBracket room old new (Ok bracket)
bracket_opened room old new bracket c true ready first left counted is taken kept =
    let took = taken refl in
    record {
      opened = record { sign = took.split ∙ ap (λ z. z ∷ new.unread) is; counted = (ready.before, ready.inside, counted_before old ready.before bracket.start counted ready.inside); room_left = left; same_text = took.same };
      refused = tt;
      same_text = tt;
      full = tt;
    }
bracket_opened room old new bracket c false ready first left counted is taken kept =
    let (r, x) = some_next old.unread (opening (bracket_of bracket.kind)) first in
    absurd (not_kept r (x ∙ ap (λ z. z ∷ r) (sym is)) (kept refl).1)
  where
    not_kept : (r : List ℕ) → old.unread ≡ c ∷ r → NotBegun (λ d. d == c) old.unread → ⊥
    not_kept r e n = both_ways (c == c) (subst (NotBegun (λ d. d == c)) e n) (same_char c)

-- what follows the bracket is shorter
pub opens : (room : ℕ) (old new : Cursor) (bracket : OpenBracket) → OpenedAt room bracket old new → SkipsOrOpens room old new (Ok (Some bracket))
opens room old new bracket o = record { begun = o; refused = tt; same_text = tt; shorter = let sign = o.sign in omega (arith, ap length sign) }

-- the character opens no bracket
pub at_scalar : (s : Cursor) (c : ℕ) (o : Option OwnKind) → IsInside s → slice_get s.unread 0 ≡ Some c → o ≡ None → OpensKind c o → AtScalar c s
at_scalar s c o ready first none opens = record { ready = ready; first = first; other = λ e. subst (OpensKind c) none opens }
