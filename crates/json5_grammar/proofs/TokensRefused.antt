-- A faulty word, number, string or key is refused where one is expected.
use Rattle.std.proofs.Common.{◌≡◌, ℕ, Bool, true, false, cond, ◌||◌, List, [], ◌∷◌, ◌++◌, refl, ap, sym, ◌∙◌, append_assoc, arith, subst, Option, ◌≢◌}
use Rattle.std.specs.Prelude.{◌==◌}
use Rattle.std.proofs.lemmas.Bool.Decides.{nat_tests}
use Rattle.std.proofs.lemmas.List.{append-nil}
use Rattle.json5_grammar.specs.Language.Characters.{Begun}
use Rattle.json5_grammar.specs.Faults.Codes.{ErrorCode, Shown}
use Rattle.json5_grammar.specs.Language.Blanks.{is_solid}
use Rattle.json5_grammar.specs.Faults.Tokens.{is_sign, begins_number, NumberWord, Cut, DecimalRun, run, zero_run, NumberFault, number_word_differs, number_word_ends, sign_without_number, sign_ends, no_hexadecimal_digit, hexadecimal_ends, hexadecimal_overflows, negative_too_large, not_a_literal, literal_overflows, leading_zero, Word, null_word, true_word, false_word, WordFault, StringFault, Named, no_item_yet, some_items, NameFault, no_unicode_escape, escaped_no_start, escaped_no_part, name_ends, backslash_ends}
use Rattle.json5_grammar.specs.Language.Numbers.{begins_run, Sign, no_sign, plus, minus}
use Rattle.json5_grammar.specs.Language.Strings.{is_quote}
use Rattle.json5_grammar.specs.Faults.Fronts.{of_object, Bracket, Expects, takes_value, key}
use Rattle.json5_grammar.specs.Faults.{begins_value, is_allowed_close}
use Rattle.json5_grammar.specs.Language.Values.{KeyText}
use Rattle.json5_grammar.specs.Model.Reading.{Place, got, bad, and_then, IsAt, word_at}
use Rattle.json5_grammar.specs.Model.ReadTexts as texts
use Rattle.json5_grammar.specs.Model.ReadValues.{read}
use Rattle.json5_grammar.specs.Model.ReadSteps.{forget, colon_after, member_head, entry_at, rest_of_bracket}
use Rattle.json5_grammar.proofs.BlanksRead.{skip_rest, solid_from, begins_solid}
use Rattle.json5_grammar.proofs.CharacterClasses.{number_begins, quote_begins, begins_others}
use Rattle.json5_grammar.proofs.KeysRead.{string_fault_head}
use Rattle.json5_grammar.proofs.NumberFaultsRefused as numbers_unique
use Rattle.json5_grammar.proofs.Refusals.{Refuses}
use Rattle.json5_grammar.proofs.StringsRead.{string_refused, fault_head}
use Rattle.json5_grammar.proofs.NamesRead.{unicode_head}
use Rattle.json5_grammar.proofs.ValueHeads.{KeyHead, key_text_head, key_begins, begins_value_solid}
use Rattle.json5_grammar.proofs.ValueSteps.{turn, rest_step, read_word_null, read_word_true, read_word_false, read_quote, read_numeral}
use Rattle.json5_grammar.proofs.WordsRead.{SameFirst, word_refused}
use Rattle.json5_grammar.proofs.TokenFaults.{number_at}
use Rattle.json5_grammar.proofs.FrontsLeft.{rest_then, entry_turn, Finish, room, left_at, Fits}
use Rattle.json5_grammar.proofs.FrontsReached.{no_close, value_next}

-- ---- values

module _ (finish : Finish) (limit : ℕ) (o : List Bracket) where
  -- what is refused of a value where one is expected
  pub value_refused_at : {code : Option ErrorCode} (a : Expects) (c : ℕ) (r : List ℕ) (place : Option (List ℕ)) → Fits o a → takes_value a ≡ true
      → is_solid c ≡ true → is_allowed_close a c ≡ false → Refuses (forget (read (room limit o) (c ∷ r))) (c ∷ r) code place
      → Refuses (left_at finish limit o a (c ∷ r)) (c ∷ r) code place
  value_refused_at a c r place f t s n (p, e, i) = (p, value_next finish limit o a c r t f s n ∙ ap (rest_then finish limit o) e, i)

  -- the same where a value begins
  pub begun_refused_at : {code : Option ErrorCode} (a : Expects) (y : List ℕ) (place : Option (List ℕ)) → Fits o a → takes_value a ≡ true
      → Begun begins_value y → Refuses (forget (read (room limit o) y)) y code place → Refuses (left_at finish limit o a y) y code place
  begun_refused_at a [] place f t b k = absurd b
  begun_refused_at a (c ∷ r) place f t b k = value_refused_at a c r place f t (begins_value_solid c b) (no_close a c t (begins_others c b).3) k

-- a word
pub word_fault : {y part : List ℕ} {code : Option ErrorCode} {place : Option (List ℕ)} {shown : Shown} (finish : Finish) (limit : ℕ)
    (o : List Bracket) (a : Expects) → Fits o a → takes_value a ≡ true → WordFault y code place part shown
    → Refuses (left_at finish limit o a y) y code place
word_fault {y = y} {code = code} {place = place} finish limit o a h t w = let k = word_refused w in by_word k.is_word k.first k.refuses
  where
    at_letter : (the_word : List ℕ) (wrong eof : ErrorCode) (letter : ℕ) → SameFirst the_word y
        → ((c : ℕ) (ks : List ℕ) → the_word ≡ c ∷ ks → c ≡ letter) → begins_value letter ≡ true
        → ((r : List ℕ) → forget (read (room limit o) (letter ∷ r)) ≡ word_at eof wrong (tt {0}) the_word (letter ∷ r))
        → Refuses (word_at eof wrong (tt {0}) the_word y) y code place → Refuses (left_at finish limit o a y) y code place
    at_letter v wrong eof letter (c, ks, r, e, i) same begins reads (p, m, j) =
        let first : y ≡ letter ∷ r = i ∙ ap (λ z. z ∷ r) (same c ks e) in
        begun_refused_at finish limit o a y place h t (subst (Begun begins_value) (sym first) begins)
        (p, ap (λ z. forget (read (room limit o) z)) first ∙ reads r ∙ ap (word_at eof wrong tt v) (sym first) ∙ m, j)

    by_word : {the_word : List ℕ} {wrong eof : ErrorCode} → Word the_word wrong eof → SameFirst the_word y
        → Refuses (word_at eof wrong (tt {0}) the_word y) y code place → Refuses (left_at finish limit o a y) y code place
    by_word null_word first k = at_letter _ _ _ 110 first (λ c ks e. cc) refl (read_word_null (room limit o)) k
    by_word true_word first k = at_letter _ _ _ 116 first (λ c ks e. cc) refl (read_word_true (room limit o)) k
    by_word false_word first k = at_letter _ _ _ 102 first (λ c ks e. cc) refl (read_word_false (room limit o)) k

-- a number
abbrev BeginsNumber : List ℕ → Type 0
BeginsNumber = Begun (λ c. is_sign c || begins_number c)

-- what a number may begin with, after a sign too
signed_begins : {s : List ℕ} {m : Bool} (c : ℕ) (y : List ℕ) → Sign s m → begins_number c ≡ true → BeginsNumber (s ++ c ∷ y)
signed_begins c y no_sign h = or_later (is_sign c) (begins_number c) h
  where
    or_later : (a b : Bool) → b ≡ true → (a || b) ≡ true
    or_later true b h = refl
    or_later false b h = h
signed_begins c y plus h = refl
signed_begins c y minus h = refl

word_begins : {w p s : List ℕ} {m : Bool} (d : ℕ) (y : List ℕ) → NumberWord w → Sign s m → Cut w p d → p ≢ [] → BeginsNumber (s ++ (p ++ y))
word_begins {p = []} d y k g i n = absurd (n refl)
word_begins {p = c ∷ p} d y NumberWord.infinity g (q, e) n = let same : c ≡ 73 = cc in signed_begins c (p ++ y) g (ap begins_number same)
word_begins {p = c ∷ p} d y NumberWord.nan g (q, e) n = let same : c ≡ 78 = cc in signed_begins c (p ++ y) g (ap begins_number same)

run_begins_number : (c : ℕ) → begins_run c ≡ true → begins_number c ≡ true
run_begins_number c h = grind (arith, nat_tests)

-- a decimal run begins so
run_begins : {n : List ℕ} (y : List ℕ) → DecimalRun n → BeginsNumber (n ++ y)
run_begins y (run {s = s} {n = n} {c = c} g h z e) =
    subst BeginsNumber (sym (append_assoc s (c ∷ n) y)) (signed_begins c (n ++ y) g (run_begins_number c h))
run_begins y (zero_run {s = s} {n = n} c g h e) = subst BeginsNumber (sym (append_assoc s (48 ∷ c ∷ n) y)) (signed_begins 48 (c ∷ n ++ y) g refl)

sign_begins : (c : ℕ) → is_sign c ≡ true → (is_sign c || begins_number c) ≡ true
sign_begins c h = rw h refl

-- a faulty number begins as a number
number_head : {x part : List ℕ} {e : Option ErrorCode} {pl : Option (List ℕ)} {shown : Shown} → NumberFault x e pl part shown → BeginsNumber x
number_head (number_word_differs r w p s d c k g i n h) = word_begins d (c ∷ r) k g i n
number_head (number_word_ends w p s d k g i n) = subst BeginsNumber (ap (λ z. s ++ z) (append-nil p)) (word_begins d [] k g i n)
number_head (sign_without_number r {sign = sign} h k) = sign_begins sign h
number_head (sign_ends {sign = sign} h) = sign_begins sign h
number_head (no_hexadecimal_digit r s x c g k h) = signed_begins 48 (x ∷ c ∷ r) g refl
number_head (hexadecimal_ends s x g k) = signed_begins 48 (x ∷ []) g refl
number_head (hexadecimal_overflows r s h x c g k a b l u) = signed_begins 48 (x ∷ (h ++ c ∷ r)) g refl
number_head (negative_too_large r h c x k a l u b) = refl
number_head (not_a_literal r n c k f b) = run_begins r k
number_head (literal_overflows r s l i c k g h f b) = run_begins r k
number_head (leading_zero r s c g h) = signed_begins 48 (c ∷ r) g refl

pub number_fault : {y part : List ℕ} {code : Option ErrorCode} {place : Option (List ℕ)} {shown : Shown} (finish : Finish) (limit : ℕ)
    (o : List Bracket) (a : Expects) → Fits o a → takes_value a ≡ true → NumberFault y code place part shown
    → Refuses (left_at finish limit o a y) y code place
number_fault {y = y} {code = code} {place = place} finish limit o a h t w = by_first y refl (number_head w) (numbers_unique.refused w)
  where
    by_first : (z : List ℕ) → y ≡ z → BeginsNumber z → numbers_unique.Refused z code place → Refuses (left_at finish limit o a y) y code place
    by_first [] e b k = absurd b
    by_first (c ∷ r) e b k =
        begun_refused_at finish limit o a y place h t (subst (Begun begins_value) (sym e) (number_begins c b)) (
          k.place,
          ap (λ z. forget (read (room limit o) z)) e ∙ read_numeral (room limit o) c r b ∙ ap forget k.answer,
          subst (λ z. IsAt z place k.place) (sym e) (number_at (c ∷ r) k.place place k.is_place),
        )

-- a string where a value is expected
pub text_fault : {y b part : List ℕ} {code : Option ErrorCode} {place : Option (List ℕ)} {shown : Shown} (finish : Finish) (limit : ℕ)
    (o : List Bracket) (a : Expects) → Fits o a → takes_value a ≡ true → StringFault y code place b part shown
    → Refuses (left_at finish limit o a y) y code place
text_fault {y = y} {code = code} {place = place} finish limit o a h t w = by_first (string_fault_head w) (string_refused w)
  where
    by_first : (c : ℕ) × (r : List ℕ) × (y ≡ c ∷ r) × (is_quote c ≡ true) → Refuses (texts.string y) y code place
        → Refuses (left_at finish limit o a y) y code place
    by_first (c, r, e, q) (p, k, i) =
        begun_refused_at finish limit o a y place h t (subst (Begun begins_value) (sym e) (quote_begins c q))
        (p, ap (λ z. forget (read (room limit o) z)) e ∙ read_quote (room limit o) c r q ∙ ap (λ z. forget (texts.string z)) (sym e) ∙ ap forget k, i)

-- ---- keys

-- what is refused of a key
pub key_left : (finish : Finish) (limit : ℕ) (o : List Bracket) (c : ℕ) (r : List ℕ) (e : Option ErrorCode) (p : Place) → Fits o key
    → is_solid c ≡ true → (c == 125) ≡ false → texts.key (c ∷ r) ≡ bad e p → left_at finish limit o key (c ∷ r) ≡ bad e p
unfolding entry_at
key_left finish limit [] c r e p f s n h = absurd f
key_left finish limit (b ∷ o) c r e p f s n h =
    let d : ℕ = room limit (b ∷ o) in
    ap (λ k. rest_of_bracket k false d (c ∷ r)) f
    ∙ rest_step of_object false d (c ∷ r)
    ∙ ap (entry_turn of_object d) (skip_rest (c ∷ r) (begins_solid c r s))
    ∙ ap (λ z. and_then (cond z (got false r) (member_head (c ∷ r))) (turn of_object d)) n
    ∙ ap (λ m. and_then (and_then m (λ a r. and_then (colon_after r) (λ u y. got true y))) (turn of_object d)) h

-- a faulty key's first character
heads_after : {t : List ℕ} (y : List ℕ) → KeyHead t → KeyHead (t ++ y)
heads_after y h = record { char = h.char; more = h.more ++ y; is = ap (λ z. z ++ y) h.is; begins = h.begins }

-- a name that begins with a backslash; items of a name before anything
backslash_key : {x : List ℕ} (t : List ℕ) → x ≡ 92 ∷ t → KeyHead x
backslash_key t e = record { char = 92; more = t; is = e; begins = refl }

named_key : {t : List ℕ} (y : List ℕ) → Named t → KeyHead y → KeyHead (t ++ y)
named_key y no_item_yet h = h
named_key y (some_items i) h = heads_after y (key_text_head (KeyText.name_key i))

-- a faulty name and a faulty string begin as keys
pub name_key_head : {x b part : List ℕ} {e : Option ErrorCode} {pl : Option (List ℕ)} {shown : Shown} → NameFault x e pl b part shown → KeyHead x
name_key_head (NameFault.in_name_escape {x = x} k f) = let h = fault_head f in named_key x k (backslash_key h.0 h.1)
name_key_head (no_unicode_escape c r k n) = named_key (92 ∷ c ∷ r) k (backslash_key (c ∷ r) refl)
name_key_head (escaped_no_start r u n) = let h = unicode_head u in heads_after r (backslash_key h.0 h.1)
name_key_head (escaped_no_part {e = e} r i u n) = heads_after (e ++ r) (key_text_head (KeyText.name_key i))
name_key_head (name_ends i) = key_text_head (KeyText.name_key i)
name_key_head (backslash_ends k) = named_key (92 ∷ []) k (backslash_key [] refl)

pub string_key_head : {x b part : List ℕ} {e : Option ErrorCode} {pl : Option (List ℕ)} {shown : Shown} → StringFault x e pl b part shown → KeyHead x
string_key_head w = let (c, r, e, q) = string_fault_head w in record { char = c; more = r; is = e; begins = quote_first (is_quote c) _ q }
  where
    quote_first : (a b : Bool) → a ≡ true → (a || b) ≡ true
    quote_first a b h = rw h

-- a key
pub faulty_key : {y : List ℕ} {code : Option ErrorCode} (finish : Finish) (limit : ℕ) (o : List Bracket) (place : Option (List ℕ)) → Fits o key
    → KeyHead y → Refuses (texts.key y) y code place → Refuses (left_at finish limit o key y) y code place
faulty_key {y = y} {code = code} finish limit o place f k (p, e, i) =
    let b = key_begins k.char k.begins in (
      p,
      ap (left_at finish limit o key) k.is
          ∙ key_left finish limit o k.char k.more code p f (solid_from k.char b.0 b.1) b.2 (ap texts.key (sym k.is) ∙ e),
      i,
    )
