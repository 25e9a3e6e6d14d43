-- Splitting a text at a character that is escaped in JSON.
use Rattle.std.proofs.Common.{◌≡◌, ◌<◌, ℕ, ◌+◌, ◌-◌, List, [], ◌∷◌, ◌++◌, true, false, length, take, refl, sym, ap, ◌∙◌, subst, arith, length-append, append_assoc, append-nil}
use Rattle.std.specs.Char.{encode_utf8}
use Rattle.std.specs.Str.{IsUtf8, chars, encode_utf8_all, IsCharBoundary}
use Rattle.std.proofs.lemmas.Bool.Decides.{nat_tests}
use Rattle.std.proofs.lemmas.Str.{chars-nil, chars-encodes, chars-append, chars_past_char, IsCharBoundary-at_seam, length-encode, len_utf8_bounds, encodes-append}
use Rattle.json5_tokens.proofs.TextCuts.{one_scalar}
use Rattle.json5_write.proofs.OutputsJoined.{scalars-append}
use Rattle.json5_styles.specs.Json.{is_unescaped}
use Rattle.json5_styles.specs.JsonTexts.{json_escaped, json_escaped_all}
use Rattle.json5_write.specs.Escaping.{StartsWithScalar}
use Rattle.json5_styles.specs.JsonEscapes.{SplitsAtChar, StandsBefore}

escaped-append : (s t : List ℕ) → json_escaped_all (s ++ t) ≡ json_escaped_all s ++ json_escaped_all t
escaped-append [] t = refl
escaped-append (c ∷ s) t = ap (λ l. json_escaped c ++ l) (escaped-append s t) ∙ sym (append_assoc (json_escaped c) (json_escaped_all s) (json_escaped_all t))

stands : (c : ℕ) → is_unescaped c ≡ true → json_escaped c ≡ c ∷ []
stands c h = grind (arith, nat_tests)

chars_before : (t rest : List ℕ) → (h : StandsBefore t rest) → chars t ≡ h.before ++ chars rest
chars_before t rest h =
    ap chars h.bytes ∙ (chars-append (encode_utf8_all h.before) rest (h.before, (h.scalars, refl)) ∙ ap (λ l. l ++ chars rest) (chars-encodes h.before h.scalars))

seam_at : (t rest : List ℕ) → (h : StandsBefore t rest) → length (encode_utf8_all h.before) ≡ length t - length rest
seam_at t rest h =
    let e : length t ≡ length (encode_utf8_all h.before) + length rest = ap length h.bytes ∙ length-append (encode_utf8_all h.before) rest in
    omega arith

pub seam : (t rest : List ℕ) → StandsBefore t rest → IsCharBoundary t (length t - length rest)
seam t rest h = subst (IsCharBoundary t) (seam_at t rest h) (IsCharBoundary-at_seam t (encode_utf8_all h.before) rest h.bytes h.utf8)

pub shorter : (rest after : List ℕ) (c : ℕ) → StartsWithScalar rest c after → length after < length rest
shorter rest after c s =
    let e : length rest ≡ length (encode_utf8 c) + length after = ap length s.bytes ∙ length-append (encode_utf8 c) after in
    let f = length-encode c in
    let b = len_utf8_bounds c in
    omega (arith, b.0)

take_all : (s t : List ℕ) → take (length s) (s ++ t) ≡ s
take_all [] t = refl
take_all (c ∷ s) t = ap (λ l. c ∷ l) (take_all s t)

pub splits : (t rest raw after : List ℕ) (c : ℕ) → StandsBefore t rest → StartsWithScalar rest c after → raw ≡ take (length t - length rest) t → is_unescaped c ≡ false → SplitsAtChar t raw c after
splits t rest raw after c h s r e =
    let front : raw ≡ encode_utf8_all h.before = r ∙ (ap (λ n. take n t) (sym (seam_at t rest h)) ∙ (ap (take (length (encode_utf8_all h.before))) h.bytes ∙ take_all (encode_utf8_all h.before) rest)) in
    let raw_chars : chars raw ≡ h.before = ap chars front ∙ chars-encodes h.before h.scalars in
    let rest_chars : chars rest ≡ c ∷ chars after = chars_past_char rest after c h.utf8 s.bytes in
    let all_chars : chars t ≡ h.before ++ c ∷ chars after = chars_before t rest h ∙ ap (λ l. h.before ++ l) rest_chars in
    record {
      text = ap json_escaped_all all_chars ∙ (escaped-append h.before (c ∷ chars after) ∙ ap (λ l. l ++ (json_escaped c ++ json_escaped_all (chars after))) (h.same ∙ sym raw_chars));
      escaped = e;
      shorter =
          let less = shorter rest after c s in
          let e : length t ≡ length (encode_utf8_all h.before) + length rest = ap length h.bytes ∙ length-append (encode_utf8_all h.before) rest in
          omega arith;
      utf8 = s.utf8;
    }

pub stands_next : (t rest after : List ℕ) (c : ℕ) → StandsBefore t rest → StartsWithScalar rest c after → is_unescaped c ≡ true → StandsBefore t after
stands_next t rest after c h s e =
    record {
      before = h.before ++ c ∷ [];
      scalars = scalars-append h.before (c ∷ []) h.scalars (one_scalar c s.scalar);
      bytes = h.bytes ∙ (ap (λ l. encode_utf8_all h.before ++ l) s.bytes ∙ (sym (append_assoc (encode_utf8_all h.before) (encode_utf8 c) after)
          ∙ ap (λ l. l ++ after) (ap (λ l. encode_utf8_all h.before ++ l) (sym (append-nil (encode_utf8 c))) ∙ sym (encodes-append h.before (c ∷ [])))));
      same = escaped-append h.before (c ∷ []) ∙ (ap (λ l. l ++ (json_escaped c ++ [])) h.same ∙ ap (λ l. h.before ++ l) (append-nil (json_escaped c) ∙ stands c e));
      utf8 = s.utf8;
    }

pub stands_all : (t rest : List ℕ) → StandsBefore t rest → rest ≡ [] → json_escaped_all (chars t) ≡ chars t
stands_all t rest h e =
    let all : chars t ≡ h.before = chars_before t rest h ∙ (ap (λ l. h.before ++ chars l) e ∙ (ap (λ l. h.before ++ l) chars-nil ∙ append-nil h.before)) in
    ap json_escaped_all all ∙ (h.same ∙ sym all)

pub stands_first : (t : List ℕ) → IsUtf8 t → StandsBefore t t
stands_first t u = record { before = []; scalars = refl; bytes = refl; same = refl; utf8 = u }
