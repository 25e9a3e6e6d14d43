-- Splitting a string at a character that is escaped.
use Rattle.std.proofs.Common.{◌≡◌, ◌<◌, ℕ, ◌≤◌, ◌+◌, ◌-◌, List, [], ◌∷◌, ◌++◌, true, if◌then◌else◌, length, take, refl, sym, ap, ◌∙◌, subst, arith, length-append, append_assoc, append-nil}
use Rattle.std.specs.Char.{encode_utf8, IsScalar}
use Rattle.std.specs.Str.{IsUtf8, chars, encode_utf8_all, IsCharBoundary}
use Rattle.std.proofs.lemmas.Bool.Decides.{nat_tests}
use Rattle.std.proofs.lemmas.Str.{chars-nil, chars-encodes, chars-append, chars_past_char, IsUtf8-encode, IsCharBoundary-at_seam, length-encode, len_utf8_bounds, encodes-append, encodes-chars}
use Rattle.std.specs.Prelude.{◌==◌, false}
use Rattle.std.specs.List.{list_any}
use Rattle.json5_grammar.specs.Written.Quoting.{escaped, escaped_all, quoted_text}
use Rattle.json5_grammar.specs.Language.Strings.{is_quote}
use Rattle.json5_tokens.specs.Escapes.{escape_of}
use Rattle.json5_write.specs.declared.quoting.Quote.{Quote}
use Rattle.json5_write.specs.declared.quoting.Quote.TheVariants as quote
use Rattle.json5_write.specs.Quotes.{delimiter}
use Rattle.json5_write.specs.Escaping.{StartsWithScalar, SplitsAtEscape, WritesAsIs}
use Rattle.json5_write.proofs.OutputsJoined.{scalars-append}
use Rattle.json5_grammar.specs.Language.Characters.{Each, no_char, char}
use Rattle.json5_tokens.specs.Scan.{SkipsAll}
use Rattle.json5_tokens.proofs.TextCuts.{Halves, one_scalar, parts_scalar}
use Rattle.json5_write.specs.EscapeFree.{is_unmarked, is_escape_free}
use Rattle.json5_write.proofs.QuotesFound.{double_quotes}

escaped-append : (q : ℕ) (s t : List ℕ) → escaped_all q (s ++ t) ≡ escaped_all q s ++ escaped_all q t
escaped-append q [] t = refl
escaped-append q (c ∷ s) t = ap (λ l. escaped q c ++ l) (escaped-append q s t) ∙ sym (append_assoc (escaped q c) (escaped_all q s) (escaped_all q t))

pub is_delimiter : (q : Quote) → is_quote (delimiter q) ≡ true
is_delimiter quote.Single = refl
is_delimiter quote.Double = refl

pub escape_is : (q c : ℕ) → is_quote q ≡ true → escape_of q c ≡ escaped q c
escape_is q c e = ap (λ b. if b then escaped q c else escaped 92 c) e

pub one_char : (c : ℕ) → IsScalar c → chars (encode_utf8 c) ≡ c ∷ []
one_char c s = chars_past_char (encode_utf8 c) [] c (IsUtf8-encode c s) (sym (append-nil (encode_utf8 c))) ∙ ap (λ l. c ∷ l) chars-nil

chars_before : (q : ℕ) (t rest : List ℕ) → (h : WritesAsIs q t rest) → chars t ≡ h.before ++ chars rest
chars_before q t rest h =
    ap chars h.bytes ∙ (chars-append (encode_utf8_all h.before) rest (h.before, (h.scalars, refl)) ∙ ap (λ l. l ++ chars rest) (chars-encodes h.before h.scalars))

seam_at : (q : ℕ) (t rest : List ℕ) → (h : WritesAsIs q t rest) → length (encode_utf8_all h.before) ≡ length t - length rest
seam_at q t rest h =
    let e : length t ≡ length (encode_utf8_all h.before) + length rest = ap length h.bytes ∙ length-append (encode_utf8_all h.before) rest in
    omega arith

pub seam : (q : ℕ) (t rest : List ℕ) → WritesAsIs q t rest → IsCharBoundary t (length t - length rest)
seam q t rest h = subst (IsCharBoundary t) (seam_at q t rest h) (IsCharBoundary-at_seam t (encode_utf8_all h.before) rest h.bytes h.utf8)

pub shorter : (rest after : List ℕ) (c : ℕ) → StartsWithScalar rest c after → length after < length rest
shorter rest after c s =
    let e : length rest ≡ length (encode_utf8 c) + length after = ap length s.bytes ∙ length-append (encode_utf8 c) after in
    let f = length-encode c in
    let b = len_utf8_bounds c in
    omega (arith, b.0)

take_all : (s t : List ℕ) → take (length s) (s ++ t) ≡ s
take_all [] t = refl
take_all (c ∷ s) t = ap (λ l. c ∷ l) (take_all s t)

pub splits : (q : ℕ) (t rest raw esc after : List ℕ) (c : ℕ) → is_quote q ≡ true → WritesAsIs q t rest → StartsWithScalar rest c after
    → raw ≡ take (length t - length rest) t → chars esc ≡ escape_of q c → SplitsAtEscape q t raw esc after
splits q t rest raw esc after c k h s r e =
    let front : raw ≡ encode_utf8_all h.before = r ∙ (ap (λ n. take n t) (sym (seam_at q t rest h)) ∙ (ap (take (length (encode_utf8_all h.before))) h.bytes ∙ take_all (encode_utf8_all h.before) rest)) in
    let raw_chars : chars raw ≡ h.before = ap chars front ∙ chars-encodes h.before h.scalars in
    let rest_chars : chars rest ≡ c ∷ chars after = chars_past_char rest after c h.utf8 s.bytes in
    let all_chars : chars t ≡ h.before ++ c ∷ chars after = chars_before q t rest h ∙ ap (λ l. h.before ++ l) rest_chars in
    record {
      text = ap (escaped_all q) all_chars ∙ (escaped-append q h.before (c ∷ chars after)
          ∙ (ap (λ l. l ++ (escaped q c ++ escaped_all q (chars after))) (h.same ∙ sym raw_chars)
          ∙ ap (λ l. chars raw ++ (l ++ escaped_all q (chars after))) (sym (e ∙ escape_is q c k))));
      shorter =
          let less = shorter rest after c s in
          let e : length t ≡ length (encode_utf8_all h.before) + length rest = ap length h.bytes ∙ length-append (encode_utf8_all h.before) rest in
          omega arith;
      utf8 = s.utf8;
    }

pub stands_next : (q : ℕ) (t rest after : List ℕ) (c : ℕ) → is_quote q ≡ true → WritesAsIs q t rest → StartsWithScalar rest c after → escape_of q c ≡ c ∷ [] → WritesAsIs q t after
stands_next q t rest after c k h s e =
    record {
      before = h.before ++ c ∷ [];
      scalars = scalars-append h.before (c ∷ []) h.scalars (one_scalar c s.scalar);
      bytes = h.bytes ∙ (ap (λ l. encode_utf8_all h.before ++ l) s.bytes ∙ (sym (append_assoc (encode_utf8_all h.before) (encode_utf8 c) after)
          ∙ ap (λ l. l ++ after) (ap (λ l. encode_utf8_all h.before ++ l) (sym (append-nil (encode_utf8 c))) ∙ sym (encodes-append h.before (c ∷ [])))));
      same = escaped-append q h.before (c ∷ []) ∙ (ap (λ l. l ++ (escaped q c ++ [])) h.same ∙ ap (λ l. h.before ++ l) (append-nil (escaped q c) ∙ (sym (escape_is q c k) ∙ e)));
      utf8 = s.utf8;
    }

pub stands_all : (q : ℕ) (t rest : List ℕ) → WritesAsIs q t rest → rest ≡ [] → escaped_all q (chars t) ≡ chars t
stands_all q t rest h e =
    let all : chars t ≡ h.before = chars_before q t rest h ∙ (ap (λ l. h.before ++ chars l) e ∙ (ap (λ l. h.before ++ l) chars-nil ∙ append-nil h.before)) in
    ap (escaped_all q) all ∙ (h.same ∙ sym all)

-- ---- a run of characters that are written as they are

escape_free_escaped : (q : Quote) (c : ℕ) → is_escape_free c ≡ true → escaped (delimiter q) c ≡ c ∷ []
escape_free_escaped quote.Single c h = grind (arith, nat_tests)
escape_free_escaped quote.Double c h = grind (arith, nat_tests)

escape_free_all : (q : Quote) (s : List ℕ) → Each is_escape_free s → escaped_all (delimiter q) s ≡ s
escape_free_all q [] no_char = refl
escape_free_all q (c ∷ s) (char h e) = ap (λ l. l ++ escaped_all (delimiter q) s) (escape_free_escaped q c h) ∙ ap (λ l. c ∷ l) (escape_free_all q s e)

run_bytes : (rest after : List ℕ) → IsUtf8 rest → IsUtf8 after → (s : SkipsAll is_escape_free rest after) → rest ≡ encode_utf8_all s.passed ++ after
run_bytes rest after u v s =
    sym (encodes-chars rest u) ∙ ap encode_utf8_all s.split ∙ encodes-append s.passed (chars after) ∙ ap (λ l. encode_utf8_all s.passed ++ l) (encodes-chars after v)

pub run_shorter : (rest after : List ℕ) → IsUtf8 rest → IsUtf8 after → SkipsAll is_escape_free rest after → length after ≤ length rest
run_shorter rest after u v s =
    let e : length rest ≡ length (encode_utf8_all s.passed) + length after = ap length (run_bytes rest after u v s) ∙ length-append (encode_utf8_all s.passed) after in
    omega arith

pub stands_run : (q : Quote) (t rest after : List ℕ) → WritesAsIs (delimiter q) t rest → IsUtf8 after → SkipsAll is_escape_free rest after → WritesAsIs (delimiter q) t after
stands_run q t rest after h v s =
    let halves : Halves rest s.passed (chars after) = record { is_text = h.utf8; split = s.split } in
    record {
      before = h.before ++ s.passed;
      scalars = scalars-append h.before s.passed h.scalars (parts_scalar halves).0;
      bytes = h.bytes ∙ (ap (λ l. encode_utf8_all h.before ++ l) (run_bytes rest after h.utf8 v s) ∙ (sym (append_assoc (encode_utf8_all h.before) (encode_utf8_all s.passed) after)
          ∙ ap (λ l. l ++ after) (sym (encodes-append h.before s.passed))));
      same = escaped-append (delimiter q) h.before s.passed ∙ (ap (λ l. l ++ escaped_all (delimiter q) s.passed) h.same ∙ ap (λ l. h.before ++ l) (escape_free_all q s.passed s.each));
      utf8 = v;
    }

pub stands_first : (q : ℕ) (t : List ℕ) → IsUtf8 t → WritesAsIs q t t
stands_first q t u = record { before = []; scalars = refl; bytes = refl; same = refl; utf8 = u }

-- ---- a string of such characters alone

differs : (q c : ℕ) → is_unmarked q ≡ false → is_escape_free c ≡ true → (c == q) ≡ false
differs q c n h = grind (arith, nat_tests)

no_quote : (q : ℕ) (s : List ℕ) → is_unmarked q ≡ false → Each is_escape_free s → list_any (λ c. c == q) s ≡ false
no_quote q [] n no_char = refl
no_quote q (c ∷ s) n (char h e) = let k : (c == q) ≡ false = differs q c n h in rw k (no_quote q s n e)

pub quoted_escape_free : (u : List ℕ) → Each is_escape_free u → quoted_text u ≡ 34 ∷ u ++ 34 ∷ []
quoted_escape_free u e =
    ap (λ q. q ∷ escaped_all q u ++ q ∷ []) (sym (double_quotes u (no_quote 34 u refl e))) ∙ ap (λ l. 34 ∷ l ++ 34 ∷ []) (escape_free_all quote.Double u e)
