-- What a type of strings expects.
use Rattle.std.proofs.Common.{◌≡◌, ℕ, Bool, true, false, List, [], ◌∷◌, ◌++◌, refl, ap, sym, ◌∙◌, subst, ◌⊎◌, inl, inr, Option, Some, None}
use Rattle.std.specs.Prelude.{◌||◌, ◌==◌}
use Rattle.json5_grammar.specs.declared.error_code.ErrorCode.{ErrorCode}
use Rattle.json5_grammar.specs.declared.error_code.ErrorCode.TheVariants.{EofParsingString, ExpectedString}
use Rattle.json5_grammar.specs.Faults.Codes.{Shown}
use Rattle.json5_grammar.specs.Language.Strings.{Str, quoted, is_quote}
use Rattle.json5_grammar.specs.Faults.Tokens.{StringFault, raw_terminator, string_ends, in_string_escape}
use Rattle.json5_grammar.specs.Language.Numbers.{lengthens}
use Rattle.json5_grammar.specs.Language.Characters.{NotBegun}
use Rattle.json5_grammar.specs.Language.Trees.{Tree}
use Rattle.json5_grammar.specs.Language.Values.{Val, Stops, is_null, is_true, is_false, is_number, is_text, is_empty_array, is_array, is_empty_object, is_object}
use Rattle.json5_grammar.proofs.CommonLemmas.{eq_from, first_same, true_false, none_some}
use Rattle.json5_grammar.proofs.StringsRead.{no_string_fault, one_string}
use Rattle.json5_tokens.specs.TokenFaults.{FaultyString, faulty, no_quote, string_missing}
use Rattle.json5_de.specs.Convert.{as_text}
use Rattle.json5_de.specs.Faults.{NotText, faulty_text, other_text}
use Rattle.json5_de.proofs.ExpectedKinds.{Expected}

-- x begins with a quote
abbrev Quoted : List ℕ → Type 0
Quoted x = (q : ℕ) × (y : List ℕ) × (x ≡ q ∷ y) × (is_quote q ≡ true)

fault_quote : {x b p : List ℕ} {e : Option ErrorCode} {pl : Option (List ℕ)} {h : Shown} → StringFault x e pl b p h → Quoted x
fault_quote (raw_terminator {q = q} {c = c} {s = s} r k i h) = (q, s ++ c ∷ r, refl, k)
fault_quote (string_ends {q = q} {s = s} k i) = (q, s, refl, k)
fault_quote (in_string_escape {q = q} {s = s} {x = x} k i f) = (q, s ++ x, refl, k)

text_quote : {s u : List ℕ} {escape_free : Bool} → Str s u escape_free → Quoted s
text_quote (quoted {q = q} {s = s} k i) = (q, s ++ q ∷ [], refl, k)

quoted_more : {s : List ℕ} (r : List ℕ) → Quoted s → Quoted (s ++ r)
quoted_more r (q, y, e, k) = (q, y ++ r, ap (λ z. z ++ r) e, k)

quoted_none : {A : Type 0} (x : List ℕ) → x ≡ [] → Quoted x → A
quoted_none x e (q, y, is, k) = let none : q ∷ y ≡ [] = sym is ∙ e in absurd (cc)

quoted_other : {A : Type 0} (x : List ℕ) (c : ℕ) (r : List ℕ) → x ≡ c ∷ r → is_quote c ≡ false → Quoted x → A
quoted_other x c r e h (q, y, is, k) =
    let same : q ≡ c = first_same q c y r (sym is ∙ e) in
    true_false (subst (λ z. is_quote z ≡ true) same k) h

end_faulty : (x : List ℕ) (reason : Option ErrorCode) (place : Option (List ℕ)) → x ≡ [] → FaultyString x reason place → (reason ≡ Some EofParsingString) × (place ≡ None)
end_faulty x reason place e (faulty f) = quoted_none x e (fault_quote f)
end_faulty x reason place e (no_quote c r h) = absurd (cc)
end_faulty x reason place e string_missing = (refl, refl)

other_faulty : (x : List ℕ) (c : ℕ) (r : List ℕ) (reason : Option ErrorCode) (place : Option (List ℕ)) → x ≡ c ∷ r → is_quote c ≡ false → FaultyString x reason place → (reason ≡ Some ExpectedString) × (place ≡ Some [])
other_faulty x c r reason place e h (faulty f) = quoted_other x c r e h (fault_quote f)
other_faulty x c r reason place e h (no_quote d q k) = (refl, refl)
other_faulty x c r reason place e h string_missing = absurd (cc)

not_faulty : {s u : List ℕ} {escape_free : Bool} (x r : List ℕ) (reason : Option ErrorCode) (place : Option (List ℕ)) → x ≡ s ++ r → Str s u escape_free → FaultyString x reason place → ⊥
not_faulty x r reason place e k (faulty {before = before} {part = part} {shown = shown} f) = no_string_fault r k (subst (λ z. StringFault z reason place before part shown) e f)
not_faulty x r reason place e k (no_quote c y h) = quoted_other x c y refl h (rw e (quoted_more r (text_quote k)))
not_faulty x r reason place e k string_missing = quoted_none x refl (rw e (quoted_more r (text_quote k)))

pub text_phrase : {C : Type 0} {s : List ℕ} {t : Tree} (f : List ℕ → Bool → Option C) (v : C) → as_text f t ≡ Some v → Val s t → (u : List ℕ) × (escape_free : Bool) × Str s u escape_free × (f u escape_free ≡ Some v)
text_phrase f v e is_null = absurd (cc)
text_phrase f v e is_true = absurd (cc)
text_phrase f v e is_false = absurd (cc)
text_phrase f v e (is_number n) = absurd (cc)
text_phrase f v e (is_text {u = u} {escape_free = escape_free} k) = (u, escape_free, k, e)
text_phrase f v e (is_empty_array b) = absurd (cc)
text_phrase f v e (is_array m) = absurd (cc)
text_phrase f v e (is_empty_object b) = absurd (cc)
text_phrase f v e (is_object m) = absurd (cc)

end_text : {C : Type 0} (other : Option ErrorCode) (f : List ℕ → Bool → Option C) (x : List ℕ) (reason : Option ErrorCode) (place : Option (List ℕ)) → x ≡ [] → NotText other f x reason place → (reason ≡ Some EofParsingString) × (place ≡ None)
end_text other f x reason place e (faulty_text k) = end_faulty x reason place e k
end_text other f x reason place e (other_text r k none) = quoted_none x e (quoted_more r (text_quote k))

other_begin : {C : Type 0} (other : Option ErrorCode) (f : List ℕ → Bool → Option C) (x : List ℕ) (c : ℕ) (r : List ℕ) (reason : Option ErrorCode) (place : Option (List ℕ)) → x ≡ c ∷ r → is_quote c ≡ false → NotText other f x reason place
    → (reason ≡ Some ExpectedString) × (place ≡ Some [])
other_begin other f x c r reason place e h (faulty_text k) = other_faulty x c r reason place e h k
other_begin other f x c r reason place e h (other_text y k none) = quoted_other x c r e h (quoted_more y (text_quote k))

not_text : {C : Type 0} (other : Option ErrorCode) (f : List ℕ → Bool → Option C) {s u : List ℕ} {escape_free : Bool} (v : C) (x r : List ℕ) (reason : Option ErrorCode) (place : Option (List ℕ)) → x ≡ s ++ r → Str s u escape_free → f u escape_free ≡ Some v → NotText other f x reason place → ⊥
not_text other f v x r reason place e k is (faulty_text g) = not_faulty x r reason place e k g
not_text other f {u = u} {escape_free = escape_free} v x r reason place e k is (other_text {u = w} {escape_free = p} y l none) =
    let one = one_string y r l k e in
    none_some (f u escape_free) v (subst (λ z. f u z ≡ None) one.2 (subst (λ z. f z p ≡ None) one.1 none)) is

pub expects_text : {C : Type 0} (other : Option ErrorCode) (f : List ℕ → Bool → Option C) → Expected (NotText other f) (as_text f) is_quote EofParsingString ExpectedString
expects_text other f = record {
  at_end = λ reason place k. end_text other f [] reason place refl k;
  at_other = λ c r reason place h k. other_begin other f (c ∷ r) c r reason place refl h k;
  no_fault = λ s r t v reason place e k stops g. let (u, escape_free, str, is) = text_phrase f v e k in not_text other f v (s ++ r) r reason place refl str is g;
  first = λ s t v e k. text_quote (text_phrase f v e k).2;
}

-- ---- nothing lengthens a string

quote_stops : (q : ℕ) (s r : List ℕ) → (q ≡ 34) ⊎ (q ≡ 39) → NotBegun (lengthens (q ∷ s)) r
quote_stops q s [] h = tt
quote_stops q [] (c ∷ r) (inl e) = rw e refl
quote_stops q [] (c ∷ r) (inr e) = rw e refl
quote_stops q (b ∷ s) (c ∷ r) (inl e) = rw e refl
quote_stops q (b ∷ s) (c ∷ r) (inr e) = rw e refl

which_quote : (q : ℕ) (a b : Bool) → (q == 34) ≡ a → (q == 39) ≡ b → (a || b) ≡ true → (q ≡ 34) ⊎ (q ≡ 39)
which_quote q true b h k e = inl (eq_from q 34 h)
which_quote q false true h k e = inr (eq_from q 39 k)
which_quote q false false h k e = absurd (cc)

pub text_stops : {s u : List ℕ} {escape_free : Bool} (r : List ℕ) → Str s u escape_free → Stops s r
text_stops r (quoted {q = q} {s = s} k i) = quote_stops q (s ++ q ∷ []) r (which_quote q (q == 34) (q == 39) refl refl k)
