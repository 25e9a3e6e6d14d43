-- Few digits in front of the input, with or without a minus, are a number of the grammar.
use Rattle.std.proofs.Common.{◌≡◌, ℕ, ◌<◌, Bool, true, false, not, ◌||◌, ◌&&◌, List, [], ◌∷◌, ◌++◌, length, drop, refl, ap, sym, ◌∙◌, subst, arith}
use Rattle.std.specs.Prelude.{◌==◌, ℤ, pos, neg_ℤ, slice_index}
use Rattle.std.specs.Char.{encode_utf8}
use Rattle.std.specs.List.{prefix_len, take_while}
use Rattle.std.specs.Str.{IsUtf8, IsCharBoundary, chars}
use Rattle.std.proofs.lemmas.List.{length-take}
use Rattle.std.proofs.lemmas.List.Sums.{prefix_len-le-length}
use Rattle.std.proofs.lemmas.Bool.Decides.{nat_tests}
use Rattle.std.proofs.lemmas.Str.{chars_from_encodes, chars_past_char, encode_ascii, IsCharBoundary-after_ascii}
use Rattle.json5_grammar.specs.Language.Characters.{is_digit, NotBegun, Each, char}
use Rattle.json5_grammar.specs.Language.Numbers.{spelled, is_empty, Integer, lone_zero, nonzero, Num, is_integer, no_sign, minus, integer, whole, in_run, after_zero, begins_run, lengthens, lengthens_body}
use Rattle.json5_grammar.specs.Model.Reading.{got}
use Rattle.json5_grammar.specs.Model.ReadNumbers as model
use Rattle.json5_grammar.proofs.NumbersRead.{complete}
use Rattle.json5_grammar.proofs.WholesWritten.{literal_alone}
use Rattle.std.proofs.lemmas.Int.{ints}
use Rattle.json5_tokens.specs.TokenResults.{GivesValue}
use Rattle.json5_grammar.specs.Model.ReadNumbers.{front_of, rest_of}
use Rattle.json5_grammar.proofs.CharacterTests.{front_each, digit_nonzero, nonzero_not_48, nonzero_digit, digit_no_sign}
use Rattle.json5_grammar.proofs.CommonLemmas.{eq_from}
use Rattle.json5_tokens.specs.declared.numbers.short.FewDigits.{FewDigits}
use Rattle.json5_tokens.specs.ByteRuns.{lengthens_digits, IsFewDigits, SpellsFewDigits}
use Rattle.json5_types.proofs.AsciiRuns.{PassesAscii, digit_is_ascii, not_begun, rest_utf8, rest_cut, chars_split}

pub len_counted : (s : List ℕ) (found : FewDigits) → IsFewDigits s found → found.len ≡ length (take_while is_digit s)
len_counted s found k = let a = length-take (prefix_len is_digit s) s in let l = prefix_len-le-length is_digit s in omega (arith, k.counted, a, l)

pub lengthens_ascii : PassesAscii lengthens_digits
lengthens_ascii c h = grind (arith, nat_tests)

pub ends_chars : (p : ℕ → Bool) (r : List ℕ) → PassesAscii p → IsUtf8 r → NotBegun p r → NotBegun p (chars r)
ends_chars p r a v n = subst (NotBegun p) (chars_from_encodes v.0 r v v.1.1) (not_begun p v.0 r a v.1.1 n)

pub whole_digits : (ds : List ℕ) → Each is_digit ds → model.is_integer ds ≡ true → Integer ds
whole_digits [] e h = absurd (cc)
whole_digits (c ∷ s) (char d e) h = decide (c == 48) s refl e h
  where
    decide : (b : Bool) (s : List ℕ) → (c == 48) ≡ b → Each is_digit s → (not (c == 48) || is_empty s) ≡ true → Integer (c ∷ s)
    decide false s k e h = nonzero (digit_nonzero c d k) e
    decide true [] k e h = subst (λ z. Integer (z ∷ [])) (sym (eq_from c 48 k)) lone_zero
    decide true (x ∷ s) k e h = let no : (not (c == 48) || false) ≡ false = rw k refl in absurd (cc)

pub few_spelled : (s r : List ℕ) (found : FewDigits) → IsUtf8 s → IsFewDigits s found → r ≡ drop found.len s → SpellsFewDigits s found.value r
few_spelled s r found u k d =
    let cut : r ≡ rest_of is_digit s = d ∙ rest_cut is_digit s found.len (len_counted s found k) in
    let v : IsUtf8 r = subst IsUtf8 (sym cut) (rest_utf8 is_digit s digit_is_ascii u) in
    record {
      digits = front_of is_digit s;
      split = chars_split is_digit s digit_is_ascii ∙ ap (λ z. front_of is_digit s ++ chars z) (sym cut);
      integer = whole_digits (front_of is_digit s) (front_each is_digit s) k.integer;
      value_is = k.value;
      ends = ends_chars lengthens_digits r lengthens_ascii v (subst (NotBegun lengthens_digits) (sym d) k.stops);
      text_rest = v;
      small = k.small;
    }

and-false : (b : Bool) → (b && false) ≡ false
and-false true = refl
and-false false = refl

-- ---- as a number of the grammar

pub literal_end : (c : ℕ) → lengthens_digits c ≡ false → (after_zero c ≡ false) × (in_run c ≡ false)
literal_end c h = (grind (arith, nat_tests), grind (arith, nat_tests))

body_ends : (ds : List ℕ) → Integer ds → (c : ℕ) → lengthens_digits c ≡ false → lengthens_body ds c ≡ false
body_ends ds lone_zero c h = (literal_end c h).0
body_ends (a ∷ []) (nonzero k e) c h = let no = nonzero_not_48 a k in let r = (literal_end c h).1 in rw (no, r) (and-false (begins_run a))
body_ends (a ∷ b ∷ s) (nonzero k e) c h = let no = nonzero_not_48 a k in let r = (literal_end c h).1 in rw (no, r) (and-false (begins_run a))

digits_no_sign : (ds : List ℕ) → Integer ds → (c : ℕ) → lengthens ds c ≡ lengthens_body ds c
digits_no_sign ds lone_zero c = refl
digits_no_sign (a ∷ s) (nonzero k e) c = let n = digit_no_sign a (nonzero_digit a k) in rw (n.0, n.1) refl

pub not_lengthened : (p q : ℕ → Bool) (r : List ℕ) → ((c : ℕ) → p c ≡ false → q c ≡ false) → NotBegun p r → NotBegun q r
not_lengthened p q [] f n = tt
not_lengthened p q (c ∷ r) f n = f c n

pub few_bare : (s r : List ℕ) (n : ℕ) (z : ℤ) → SpellsFewDigits s n r → z ≡ pos n → GivesValue (model.number (chars s)) (whole z) r
few_bare s r n z k e =
    let num : Num k.digits (whole (pos (spelled 10 0 k.digits))) = is_integer no_sign (literal_alone (integer k.integer)) (let l = k.small in let v = k.value_is in (omega (arith, ints), omega (arith, ints))) in
    let stops = not_lengthened lengthens_digits (lengthens k.digits) (chars r) (λ c h. digits_no_sign k.digits k.integer c ∙ body_ends k.digits k.integer c h) k.ends in
    record {
      read = ap model.number k.split ∙ complete num (chars r) stops ∙ ap (λ v. got (whole v) (chars r)) (sym (e ∙ ap pos k.value_is));
      text = k.text_rest;
    }

pub few_minus : (s t r : List ℕ) (n : ℕ) (z : ℤ) → chars s ≡ 45 ∷ chars t → SpellsFewDigits t n r → z ≡ neg_ℤ (pos n) → GivesValue (model.number (chars s)) (whole z) r
few_minus s t r n z m k e =
    let num : Num (45 ∷ k.digits) (whole (neg_ℤ (pos (spelled 10 0 k.digits)))) = is_integer minus (literal_alone (integer k.integer)) (let l = k.small in let v = k.value_is in (omega (arith, ints), omega (arith, ints))) in
    let stops = not_lengthened lengthens_digits (lengthens (45 ∷ k.digits)) (chars r) (λ c h. body_ends k.digits k.integer c h) k.ends in
    record {
      read = ap model.number (m ∙ ap (λ x. 45 ∷ x) k.split) ∙ complete num (chars r) stops ∙ ap (λ v. got (whole v) (chars r)) (sym (e ∙ ap (λ v. neg_ℤ (pos v)) k.value_is));
      text = k.text_rest;
    }
