-- A step to the next element or member, in the words of its contract.
use Rattle.std.proofs.Common.{◌≡◌, ℕ, ◌-◌, ◌<◌, Bool, true, false, List, [], ◌∷◌, ◌++◌, length, drop, refl, ap, sym, ◌∙◌, inl, inr, subst, arith, nat_eq, slice_index_or}
use Rattle.std.specs.Prelude.{◌==◌, Option, Some, None, IfSome}
use Rattle.std.specs.Char.{encode_utf8}
use Rattle.std.specs.Str.{IsUtf8, chars}
use Rattle.std.proofs.lemmas.Bool.Decides.{nat_tests}
use Rattle.std.proofs.lemmas.List.{append_assoc, length-drop}
use Rattle.std.proofs.lemmas.Str.{IsUtf8-drop, chars_past_char, encode_ascii, IsCharBoundary-after_ascii}
use Rattle.json5_grammar.specs.Language.Blanks.{Gap}
use Rattle.json5_grammar.specs.Language.Characters.{comma_sign}
use Rattle.json5_grammar.specs.Model.Collections.{IsSign}
use Rattle.json5_grammar.specs.Model.ReadBlanks.{skip, between}
use Rattle.json5_grammar.proofs.CommonLemmas.{eq_from}
use Rattle.json5_grammar.proofs.BlanksSound.{gap_blanks}
use Rattle.json5_tokens.specs.TokenResults.{GivesValue}
use Rattle.json5_tokens.specs.Cursor.{Cursor}
use Rattle.json5_tokens.specs.Scan.{Leaves, LeavesAt}
use Rattle.json5_tokens.specs.Outcome.{bytes_in}
use Rattle.json5_tokens.specs.ShortWays.{IsStep, FindsStep, IsInFront, Stepped, TakesShortSign}
use Rattle.json5_types.proofs.AsciiRuns.{PassesAscii}
use Rattle.json5_tokens.proofs.ScanTokens.{left_counted, blanks_passed}
use Rattle.json5_tokens.proofs.WholesOfFewDigits.{ends_chars}

sign_ascii : (sign : ℕ) → sign < 128 → PassesAscii (λ c. c == sign)
sign_ascii sign h c e = grind (arith, nat_tests)

pub none_in_front : (sign : ℕ) (x : List ℕ) → sign < 128 → IsUtf8 x → length x ≡ 0 → IsInFront sign x false
none_in_front sign [] h u e = ends_chars (λ c. c == sign) [] (sign_ascii sign h) u tt
none_in_front sign (c ∷ x) h u e = absurd (omega (arith, e))

pub in_front : (sign : ℕ) (x y : List ℕ) (b : Bool) → sign < 128 → IsUtf8 x → y ≡ x → (length x ≡ 0 → ⊥) → nat_eq (slice_index_or y 0 0) sign ≡ b → IsInFront sign x b
in_front sign [] y b h u e some k = absurd (some refl)
in_front sign (c ∷ x) y true h u e some k =
    let same : c ≡ sign = eq_from c sign (rw e at k) in
    let front : (c ∷ x) ≡ encode_utf8 sign ++ x = ap (λ z. z ∷ x) same ∙ ap (λ z. z ++ x) (sym (encode_ascii sign h)) in
    (IsCharBoundary-after_ascii (c ∷ x) 0 u (omega arith) (omega (arith, same, h)), chars_past_char (c ∷ x) x sign u front)
in_front sign (c ∷ x) y false h u e some k = ends_chars (λ d. d == sign) (c ∷ x) (sign_ascii sign h) u (rw e at k)

sign_after : (sign : ℕ) (x rest : List ℕ) → GivesValue (skip between x) tt rest → chars rest ≡ sign ∷ chars (drop 1 rest) → IsSign sign x (chars (drop 1 rest))
sign_after sign x rest g f =
    let k = blanks_passed x x (chars rest) refl g.read in
    record { front = k.gap; split = k.split ∙ ap (λ z. k.gap ++ z) f; blank = gap_blanks sign (chars (drop 1 rest)) (subst (Gap k.gap) f k.blank) }

pub entry_found : (text rest : List ℕ) (closing : ℕ) (b : Bool) → GivesValue (skip between (chars text)) tt rest → IsInFront closing rest b → FindsStep closing false b text rest
entry_found text rest closing true g f =
    let k = blanks_passed (chars text) (chars text) (chars rest) refl g.read in
    record { passed = k.gap; split = k.split; step = (chars (drop 1 rest), sign_after closing (chars text) rest g f.1, f.1); text_rest = g.text }
entry_found text rest closing false g f =
    let k = blanks_passed (chars text) (chars text) (chars rest) refl g.read in
    record { passed = k.gap; split = k.split; step = (record { gap = k.gap; split = k.split; is_gap = k.blank; solid = k.solid }, f); text_rest = g.text }

pub closing_found : (text rest : List ℕ) (closing : ℕ) (comma_due : Bool) → GivesValue (skip between (chars text)) tt rest → IsInFront closing rest true → FindsStep closing comma_due true text rest
closing_found text rest closing false g f = entry_found text rest closing true g f
closing_found text rest closing true g f =
    let k = blanks_passed (chars text) (chars text) (chars rest) refl g.read in
    record { passed = k.gap; split = k.split; step = (chars (drop 1 rest), inl (sign_after closing (chars text) rest g f.1), f.1); text_rest = g.text }

after_comma : (closing : ℕ) (at_closing : Bool) (x y z : List ℕ) → IsSign comma_sign x z → IsStep closing false at_closing z y → IsStep closing true at_closing x y
after_comma closing true x y z c (r, e, f) = (r, inr (z, c, e), f)
after_comma closing false x y z c (s, f) = ((z, c, s), f)

pub comma_found : (text rest next last : List ℕ) (closing : ℕ) (at_closing : Bool) → GivesValue (skip between (chars text)) tt rest → IsInFront comma_sign rest true → next ≡ drop 1 rest → FindsStep closing false at_closing next last
    → FindsStep closing true at_closing text last
comma_found text rest next last closing at_closing g f n k =
    let b = blanks_passed (chars text) (chars text) (chars rest) refl g.read in
    let front : chars rest ≡ comma_sign ∷ chars next = f.1 ∙ ap (λ z. comma_sign ∷ chars z) (sym n) in
    let comma : IsSign comma_sign (chars text) (chars next) = subst (λ z. IsSign comma_sign (chars text) (chars z)) (sym n) (sign_after comma_sign (chars text) rest g f.1) in
    record {
      passed = b.gap ++ (comma_sign ∷ k.passed);
      split = b.split ∙ ap (λ z. b.gap ++ z) (front ∙ ap (λ z. comma_sign ∷ z) k.split) ∙ sym (append_assoc b.gap (comma_sign ∷ k.passed) (chars last));
      step = after_comma closing at_closing (chars text) (chars last) (chars next) comma k.step;
      text_rest = k.text_rest;
    }

-- what was found in front was taken
pub stepped : {closing : ℕ} {comma_due at_closing : Bool} {text rest : List ℕ} (old new : Cursor) (b : Bool) → FindsStep closing comma_due at_closing text rest → chars text ≡ old.unread → LeavesAt old (length rest) new → at_closing ≡ b → Stepped closing comma_due b old new
stepped {closing = closing} {comma_due = comma_due} {rest = rest} old new b k e left is =
    let l = left k.passed (chars rest) (sym e ∙ k.split) (left_counted rest k.text_rest) in
    let step : IsStep closing comma_due b old.unread new.unread = rw (e, is, sym l.1) at k.step in
    record { step = step; same = l.0.same }

-- ---- a sign alone

-- blanks and the sign are in front of the text, and so many bytes are left after it
pub record FindsSign (sign : ℕ) (text : List ℕ) (left : ℕ) : Type 0 where
  pub rest : List ℕ
  pub found : IsSign sign (chars text) rest
  pub counted : left ≡ bytes_in rest

pub sign_found : (sign : ℕ) (text solid : List ℕ) → GivesValue (skip between (chars text)) tt solid → IsInFront sign solid true → FindsSign sign text (length solid - 1)
sign_found sign text solid g f = record {
  rest = chars (drop 1 solid);
  found = sign_after sign (chars text) solid g f.1;
  counted = sym (length-drop 1 solid) ∙ left_counted (drop 1 solid) (IsUtf8-drop solid 1 g.text f.0);
}

sign_split : {sign left : ℕ} {text x : List ℕ} (k : FindsSign sign text left) → chars text ≡ x → x ≡ (k.found.front ++ sign ∷ []) ++ k.rest
sign_split {sign = sign} k e = sym e ∙ k.found.split ∙ sym (append_assoc k.found.front (sign ∷ []) k.rest)

pub sign_leaves : {sign left : ℕ} {text : List ℕ} (s : Cursor) → FindsSign sign text left → chars text ≡ s.unread → Leaves s left
sign_leaves {sign = sign} s k e = record { passed = k.found.front ++ sign ∷ []; rest = k.rest; split = sign_split k e; counted = k.counted }

pub sign_taken : {sign left : ℕ} {text : List ℕ} (old new : Cursor) → FindsSign sign text left → chars text ≡ old.unread → LeavesAt old left new → TakesShortSign sign old new true
sign_taken {sign = sign} old new k e left =
    let l = left (k.found.front ++ sign ∷ []) k.rest (sign_split k e) k.counted in
    (record { front = k.found.front; split = sym e ∙ k.found.split ∙ ap (λ z. k.found.front ++ sign ∷ z) (sym l.1); blank = k.found.blank }, l.0.same)
