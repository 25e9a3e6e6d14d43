-- A fault of the table is what reading refuses the input with: its code, at its position.
use Rattle.std.proofs.Common.{◌≡◌, ℕ, suc, ◌-◌, Bool, true, false, cond, ◌||◌, List, [], ◌∷◌, length, refl, ap, sym, ◌∙◌, arith, subst, ◌⊎◌, inl, inr, Option, Some, ◌≢◌}
use Rattle.std.specs.Prelude.{◌==◌}
use Rattle.std.proofs.lemmas.Bool.{or_parts}
use Rattle.std.proofs.lemmas.Bool.Decides.{nat_tests}
use Rattle.json5_grammar.specs.Language.Characters.{is_identifier_start}
use Rattle.json5_grammar.specs.Faults.Codes.{ErrorCode, EofParsingObject, EofParsingValue, ExpectedIdentifier, ExpectedColon, ExpectedComma, ExpectedValue, TrailingCharacters, TooDeep, Shown}
use Rattle.json5_grammar.specs.Language.Blanks.{is_solid}
use Rattle.json5_grammar.specs.Language.Strings.{is_quote}
use Rattle.json5_grammar.specs.Language.Trees.{Tree}
use Rattle.json5_grammar.specs.Faults.Fronts.{BracketKind, of_array, of_object, Bracket, Expects, takes_value, closing, value, element, key, colon, comma, end}
use Rattle.json5_grammar.specs.Faults.{begins_value, IsIn, eof_in, FaultAt, in_comment, no_value, value_missing, nested_too_deep, no_comma, comma_missing, no_key, key_missing, no_colon, colon_missing, trailing, in_word, in_number, in_a_string, in_a_name, FaultWhere, Fault, ValueFault, fault}
use Rattle.json5_grammar.specs.Model.Reading.{Place, here, inner, Read, got, bad, and_then}
use Rattle.json5_grammar.specs.Model.ReadBlanks.{skip, between}
use Rattle.json5_grammar.specs.Model.ReadValues.{read, at_end, document}
use Rattle.json5_grammar.specs.Model.ReadSteps.{forget, entry_at, comma_at, separator, rest_of_bracket}
use Rattle.json5_grammar.proofs.CommonLemmas.{not_eq}
use Rattle.json5_grammar.proofs.BlanksRead.{skip_rest, begins_solid, skip_end}
use Rattle.json5_grammar.proofs.BlanksSound.{comment_refused}
use Rattle.json5_grammar.proofs.KeysRead.{key_string_refused, key_name_refused}
use Rattle.json5_grammar.proofs.Refusals.{Refuses}
use Rattle.json5_grammar.proofs.OneTree.{phrase_reader}
use Rattle.json5_grammar.proofs.ValuesSound.{no_key_at}
use Rattle.json5_grammar.proofs.ValueSteps.{turn, rest_step, read_too_deep, read_missing, read_nothing}
use Rattle.json5_grammar.proofs.FrontsLeft.{rest_then, colon_then, comma_turn, gap_then, entry_turn, Finish, ending, anything, phrase_then, document_ends, room, left_at, Fits, front_fits}
use Rattle.json5_grammar.proofs.FrontsRefused.{EndsFully, refused_at}
use Rattle.json5_grammar.proofs.TokensRefused.{value_refused_at, begun_refused_at, faulty_key, key_left, name_key_head, number_fault, string_key_head, text_fault, word_fault}

-- ---- blanks

-- what is refused before anything else
blanks_left : (finish : Finish) (limit : ℕ) (o : List Bracket) (a : Expects) (y : List ℕ) (e : Option ErrorCode) (p : Place)
    → EndsFully a finish → Fits o a → skip between y ≡ bad e p → left_at finish limit o a y ≡ bad e p
unfolding entry_at separator
blanks_left finish limit o value y e p g f h = ap (gap_then finish limit o) h
blanks_left finish limit [] element y e p g f h = absurd f
blanks_left finish limit (b ∷ o) element y e p g f h =
    rest_step b.kind false (room limit (b ∷ o)) y ∙ ap (entry_turn b.kind (room limit (b ∷ o))) h
blanks_left finish limit [] key y e p g f h = absurd f
blanks_left finish limit (b ∷ o) key y e p g f h =
    rest_step b.kind false (room limit (b ∷ o)) y ∙ ap (entry_turn b.kind (room limit (b ∷ o))) h
blanks_left finish limit o colon y e p g f h = ap (colon_then finish limit o) h
blanks_left finish limit [] comma y e p g f h = absurd f
blanks_left finish limit (b ∷ o) comma y e p g f h =
    rest_step b.kind true (room limit (b ∷ o)) y
    ∙ ap (comma_turn b.kind (room limit (b ∷ o))) h
blanks_left finish limit [] end y e p g f h = ap (λ (k : Finish). k.at y) (g refl) ∙ ap (λ m. and_then m (λ u r. forget (at_end Tree.null r))) h
blanks_left finish limit (b ∷ o) end y e p g f h = absurd f

-- ---- between tokens

-- at the end, where a value is expected
no_value_left : (finish : Finish) (limit : ℕ) (o : List Bracket) (a : Expects) → takes_value a ≡ true → Fits o a
    → left_at finish limit o a [] ≡ bad (Some EofParsingValue) inner
unfolding entry_at
no_value_left finish limit o value t f = ap (gap_then finish limit o) skip_end ∙ ap (rest_then finish limit o) (read_missing (room limit o))
no_value_left finish limit [] element t f = absurd f
no_value_left finish limit (b ∷ o) element t f =
    let d : ℕ = room limit (b ∷ o) in
    ap (λ k. rest_of_bracket k false d []) f
    ∙ rest_step of_array false d []
    ∙ ap (entry_turn of_array d) skip_end
    ∙ ap (λ m. and_then m (λ u y. rest_of_bracket of_array true d y)) (read_missing d)
no_value_left finish limit o key t f = absurd (cc)
no_value_left finish limit o colon t f = absurd (cc)
no_value_left finish limit o comma t f = absurd (cc)
no_value_left finish limit o end t f = absurd (cc)

-- after an element or a pair
comma_left : (finish : Finish) (limit : ℕ) (k : BracketKind) (o : List Bracket) (y : List ℕ) (e : Option ErrorCode) (p : Place) → IsIn k o
    → skip between y ≡ got tt y → comma_at k y ≡ bad e p → left_at finish limit o comma y ≡ bad e p
unfolding separator
comma_left finish limit k [] y e p i s h = absurd i
comma_left finish limit k (b ∷ o) y e p i s h =
    let d : ℕ = limit - suc (length o) in
    ap (λ n. rest_of_bracket n true d y) i
    ∙ rest_step k true d y
    ∙ ap (comma_turn k d) s
    ∙ ap (λ m. and_then (and_then m (λ more y. cond more (entry_at k y) (got false y))) (turn k d)) h

-- at the end, and at another character
comma_at_end : (k : BracketKind) → comma_at k [] ≡ bad (Some (eof_in k)) inner
comma_at_end of_array = refl
comma_at_end of_object = refl

no_comma_read : (k : BracketKind) (c : ℕ) (r : List ℕ) → ((c == 44) || (c == closing k)) ≡ false
    → comma_at k (c ∷ r) ≡ bad (Some ExpectedComma) (here (c ∷ r))
no_comma_read k c r h = let n = or_parts (c == 44) (c == closing k) h in rw (n.0, n.1) refl

-- at the end, where a key or a colon is expected
no_key_left : (finish : Finish) (limit : ℕ) (o : List Bracket) → Fits o key → left_at finish limit o key [] ≡ bad (Some EofParsingObject) inner
unfolding entry_at
no_key_left finish limit [] f = absurd f
no_key_left finish limit (b ∷ o) f =
    let d : ℕ = limit - suc (length o) in
    ap (λ n. rest_of_bracket n false d []) f
    ∙ rest_step of_object false d []
    ∙ ap (entry_turn of_object d) skip_end

-- where a colon is expected, at the end and at another character
colon_left : (finish : Finish) (limit : ℕ) (o : List Bracket) → left_at finish limit o colon [] ≡ bad (Some EofParsingObject) inner
colon_left finish limit o = ap (colon_then finish limit o) skip_end

no_colon_left : (finish : Finish) (limit : ℕ) (o : List Bracket) (c : ℕ) (r : List ℕ) → is_solid c ≡ true → c ≢ 58
    → left_at finish limit o colon (c ∷ r) ≡ bad (Some ExpectedColon) (here (c ∷ r))
no_colon_left finish limit o c r s n =
    ap (colon_then finish limit o) (skip_rest (c ∷ r) (begins_solid c r s))
    ∙ ap (λ b. gap_then finish limit o (and_then (cond b (got tt r) (bad (Some ExpectedColon) (here (c ∷ r)))) (λ v z. skip between z)))
    (not_eq c 58 n)

-- at a character after the whole value
trailing_left : (finish : Finish) (limit : ℕ) (o : List Bracket) (c : ℕ) (r : List ℕ) → finish ≡ ending → Fits o end → is_solid c ≡ true
    → left_at finish limit o end (c ∷ r) ≡ bad (Some TrailingCharacters) (here (c ∷ r))
trailing_left finish limit [] c r g f s =
    ap (λ (k : Finish). k.at (c ∷ r)) g ∙ ap (λ m. and_then m (λ u r. forget (at_end Tree.null r))) (skip_rest (c ∷ r) (begins_solid c r s))
trailing_left finish limit (b ∷ o) c r g f s = absurd f

-- a character that begins no value
nothing_read : (d c : ℕ) (r : List ℕ) → begins_value c ≡ false → forget (read d (c ∷ r)) ≡ bad (Some ExpectedValue) (here (c ∷ r))
nothing_read d c r h =
    read_nothing d c r (grind (arith, nat_tests)) (grind (arith, nat_tests)) (grind (arith, nat_tests)) (grind (arith, nat_tests))
    (grind (arith, nat_tests)) (grind (arith, nat_tests)) (grind (arith, nat_tests))

-- a bracket too many
deep_read : (d c : ℕ) (r : List ℕ) → d ≡ 0 → ((c == 91) || (c == 123)) ≡ true → forget (read d (c ∷ r)) ≡ bad (Some TooDeep) (here (c ∷ r))
deep_read d c r e h = ap (λ n. forget (read n (c ∷ r))) e ∙ by_bracket (which c h)
  where
    which : (c : ℕ) → ((c == 91) || (c == 123)) ≡ true → (c ≡ 91) ⊎ (c ≡ 123)
    which c h = grind (arith, nat_tests)

    by_bracket : (c ≡ 91) ⊎ (c ≡ 123) → forget (read 0 (c ∷ r)) ≡ bad (Some TooDeep) (here (c ∷ r))
    by_bracket (inl k) = rw k (read_too_deep of_array r)
    by_bracket (inr k) = rw k (read_too_deep of_object r)

-- an opening bracket begins a value
bracket_begins : (c : ℕ) → ((c == 91) || (c == 123)) ≡ true → begins_value c ≡ true
bracket_begins c h = grind (arith, nat_tests)

-- what begins neither a key nor is a brace
start_or_brace : (a b d e : Bool) → (a || (b || (d || e))) ≡ false → ((a || (b || d)) ≡ false) × (e ≡ false)
start_or_brace true b d e h = absurd (cc)
start_or_brace false true d e h = absurd (cc)
start_or_brace false false true e h = absurd (cc)
start_or_brace false false false e h = (refl, h)

-- ---- every row

-- a refusal is the same where what was read is forgotten
unforget : {A : Type 0} (m : Read A) (e : Option ErrorCode) (p : Place) → forget m ≡ bad e p → m ≡ bad e p
unforget (got a r) e p h = absurd (cc)
unforget (bad c q) e p h = cc

-- a fault where something is expected is refused there
row_refused : {limit : ℕ} {o : List Bracket} {a : Expects} {y b part : List ℕ} {code : Option ErrorCode} {place : Option (List ℕ)} {shown : Shown}
    (finish : Finish) → EndsFully a finish → Fits o a → FaultAt limit o a y code place b part shown
    → Refuses (left_at finish limit o a y) y code place
row_refused {limit = limit} {o = o} {a = a} {y = y} {code = code} finish g f (in_comment c) =
    let (p, e, i) = comment_refused c in (p, blanks_left finish limit o a y code p g f e, i)
row_refused {limit = limit} {o = o} {a = a} finish g f (no_value {c = c} {r = r} t s b n) =
    value_refused_at finish limit o a c r (Some []) f t s n (here (c ∷ r), nothing_read (room limit o) c r b, refl)
row_refused {limit = limit} {o = o} {a = a} finish g f (value_missing t) = (inner, no_value_left finish limit o a t f, tt)
row_refused {limit = limit} {o = o} {a = a} finish g f (nested_too_deep {c = c} {r = r} t b l) =
    begun_refused_at finish limit o a (c ∷ r) (Some []) f t (bracket_begins c b)
    (here (c ∷ r), deep_read (room limit o) c r (omega (arith, l)) b, refl)
row_refused {limit = limit} {o = o} finish g f (no_comma {c = c} {r = r} k i s n) = (
  here (c ∷ r),
  comma_left finish limit k o (c ∷ r) (Some ExpectedComma) (here (c ∷ r)) i (skip_rest (c ∷ r) (begins_solid c r s)) (no_comma_read k c r n),
  refl,
)
row_refused {limit = limit} {o = o} finish g f (comma_missing k i) =
    (inner, comma_left finish limit k o [] (Some (eof_in k)) inner i skip_end (comma_at_end k), tt)
row_refused {limit = limit} {o = o} finish g f (no_key {c = c} {r = r} s n) =
    let k = start_or_brace (is_quote c) (c == 92) (is_identifier_start c) (c == 125) n in
    (here (c ∷ r), key_left finish limit o c r (Some ExpectedIdentifier) (here (c ∷ r)) f s k.1 (no_key_at c r k.0), refl)
row_refused {limit = limit} {o = o} finish g f key_missing = (inner, no_key_left finish limit o f, tt)
row_refused {limit = limit} {o = o} finish g f (no_colon {c = c} {r = r} s n) = (here (c ∷ r), no_colon_left finish limit o c r s n, refl)
row_refused {limit = limit} {o = o} finish g f colon_missing = (inner, colon_left finish limit o, tt)
row_refused {limit = limit} {o = o} finish g f (trailing {c = c} {r = r} s) = (here (c ∷ r), trailing_left finish limit o c r (g refl) f s, refl)
row_refused {limit = limit} {o = o} {a = a} finish g f (in_word t w) = word_fault finish limit o a f t w
row_refused {limit = limit} {o = o} {a = a} finish g f (in_number t w) = number_fault finish limit o a f t w
row_refused {limit = limit} {o = o} {a = a} finish g f (in_a_string (inl t) w) = text_fault finish limit o a f t w
row_refused {limit = limit} {o = o} {y = y} {code = code} {place = place} finish g f (in_a_string (inr t) w) =
    subst (λ z. Refuses (left_at finish limit o z y) y code place) (sym t)
    (faulty_key finish limit o place (subst (Fits o) t f) (string_key_head w) (key_string_refused w))
row_refused {limit = limit} {o = o} {place = place} finish g f (in_a_name w) =
    faulty_key finish limit o place f (name_key_head w) (key_name_refused w)

-- a fault is refused in the whole
where_refused : {Where : Expects → Type 0} {limit : ℕ} {x b part : List ℕ} {code : Option ErrorCode} {place : Option (List ℕ)} {shown : Shown}
    (finish : Finish) → ((a : Expects) → Where a → EndsFully a finish) → FaultWhere Where limit x code place b part shown
    → Refuses (phrase_then finish limit x) x code place
where_refused finish g (fault {a = a} {place = place} h w t) = refused_at finish place h (row_refused finish (g a w) (front_fits h) t)

-- a fault of the table is refused with its code at its position
pub fault_refused : {limit : ℕ} {x b part : List ℕ} {code : Option ErrorCode} {place : Option (List ℕ)} {shown : Shown}
    → Fault limit x code place b part shown → Refuses (document limit x) x code place
fault_refused {limit = limit} {x = x} {code = code} t =
    let (p, e, i) = where_refused ending (λ a w k. refl) t in (p, unforget (document limit x) code p (document_ends limit x ∙ e), i)

-- and so is a fault of the value
pub value_fault_refused : {limit : ℕ} {x b part : List ℕ} {code : Option ErrorCode} {place : Option (List ℕ)} {shown : Shown}
    → ValueFault limit x code place b part shown → Refuses (phrase_reader limit x) x code place
value_fault_refused {limit = limit} {x = x} {code = code} t =
    let (p, e, i) = where_refused anything (λ a w k. absurd (w k)) t in (p, by_answer (phrase_reader limit x) p e, i)
  where
    by_answer : (m : Read Tree) (p : Place) → and_then {B = Unit {0}} (forget m) (λ u z. got tt []) ≡ bad code p → m ≡ bad code p
    by_answer (got t r) p e = absurd (cc)
    by_answer (bad c q) p e = cc
