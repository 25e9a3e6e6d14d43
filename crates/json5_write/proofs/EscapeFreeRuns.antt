-- Runs of bytes that are written as they are, are runs of such characters.
use Rattle.std.proofs.Common.{◌≡◌, ℕ, suc, ◌+◌, Bool, true, false, not, cond, ◌&&◌, ◌||◌, List, [], ◌∷◌, ◌++◌, refl, sym, ap, ◌∙◌, subst, arith, append-nil, length}
use Rattle.std.specs.Prelude.{◌==◌}
use Rattle.std.specs.List.{prefix_len}
use Rattle.std.specs.Char.{encode_utf8}
use Rattle.std.specs.Str.{chars}
use Rattle.std.proofs.lemmas.Str.{chars-nil}
use Rattle.json5_tokens.specs.Scan.{SkipsAll}
use lib.Bits.{bit_or}
use lib.Lanes.{top}
use Rattle.std.proofs.lemmas.Bool.{and_parts}
use Rattle.std.proofs.lemmas.Bool.Decides.{nat_tests}
use Rattle.json5_grammar.specs.Language.Characters.{Each, no_char, char}
use Rattle.json5_grammar.proofs.CommonLemmas.{eq_from}
use Rattle.json5_tokens.specs.ByteRuns.{is_in_line, is_line_part}
use Rattle.json5_tokens.proofs.RunBoundaries.{FailsAscii, OfChars, of_ascii, line_chars}
use Rattle.json5_tokens.proofs.ByteSearch.{hit}
use Rattle.json5_write.specs.EscapeFree.{ends_escape_free, is_escape_free_byte, is_unmarked, is_escape_free}

-- ---- two tests at once

and_of : (a b : Bool) → a ≡ true → b ≡ true → (a && b) ≡ true
and_of a b e f = ap (λ x. x && b) e ∙ f

each_both : {p r : ℕ → Bool} {s : List ℕ} → Each p s → Each r s → Each (λ x. p x && r x) s
each_both no_char no_char = no_char
each_both (char h e) (char k f) = char (and_of _ _ h k) (each_both e f)

first_left : (p r : ℕ → Bool) (s : List ℕ) → prefix_len p s ≡ 0 → prefix_len (λ x. p x && r x) s ≡ 0
first_left p r [] e = refl
first_left p r (x ∷ s) e = decide (p x) refl
  where
    decide : (b : Bool) → p x ≡ b → prefix_len (λ y. p y && r y) (x ∷ s) ≡ 0
    decide true h = let k : 1 + prefix_len p s ≡ 0 = rw h at e in absurd (omega arith)
    decide false h = rw h refl

first_right : (p r : ℕ → Bool) (s : List ℕ) → prefix_len r s ≡ 0 → prefix_len (λ x. p x && r x) s ≡ 0
first_right p r [] e = refl
first_right p r (x ∷ s) e = decide (r x) refl (p x) refl
  where
    decide : (b : Bool) → r x ≡ b → (a : Bool) → p x ≡ a → prefix_len (λ y. p y && r y) (x ∷ s) ≡ 0
    decide true h a g = let k : 1 + prefix_len r s ≡ 0 = rw h at e in absurd (omega arith)
    decide false h true g = rw g (rw h refl)
    decide false h false g = rw g refl

both_chars : (p q r t : ℕ → Bool) → OfChars p q → OfChars r t → OfChars (λ x. p x && r x) (λ c. q c && t c)
both_chars p q r t a b = record { inside = within; first = stops }
  where
    within : (c : ℕ) → (q c && t c) ≡ true → Each (λ x. p x && r x) (encode_utf8 c)
    within c h = let k = and_parts (q c) (t c) h in each_both (a.inside c k.0) (b.inside c k.1)

    stops : (c : ℕ) (s : List ℕ) → (q c && t c) ≡ false → prefix_len (λ x. p x && r x) (encode_utf8 c ++ s) ≡ 0
    stops c s h = decide (q c) refl
      where
        decide : (k : Bool) → q c ≡ k → prefix_len (λ x. p x && r x) (encode_utf8 c ++ s) ≡ 0
        decide true e = first_right p r (encode_utf8 c ++ s) (b.first c s (rw e at h))
        decide false e = first_left p r (encode_utf8 c ++ s) (a.first c s e)

-- ---- the tests of a run

unmarked_fails : FailsAscii is_unmarked
unmarked_fails c h = grind (arith, nat_tests)

six : (a b c d e f : Bool) → ((not a && (not b && not c)) && (not d && (not e && not f))) ≡ not (a || (b || (c || (d || (e || f)))))
six true b c d e f = refl
six false true c d e f = refl
six false false true d e f = refl
six false false false true e f = refl
six false false false false true f = refl
six false false false false false f = refl

same_byte : (x : ℕ) → (is_in_line x && is_unmarked x) ≡ is_escape_free_byte x
same_byte x = six (x == 10) (x == 13) (x == 226) (x == 34) (x == 39) (x == 92)

each_as : {p r : ℕ → Bool} {s : List ℕ} → ((x : ℕ) → p x ≡ r x) → Each p s → Each r s
each_as h no_char = no_char
each_as h (char {c = c} e f) = char (sym (h c) ∙ e) (each_as h f)

prefix_as : (p r : ℕ → Bool) → ((x : ℕ) → p x ≡ r x) → (s : List ℕ) → prefix_len p s ≡ prefix_len r s
prefix_as p r h [] = refl
prefix_as p r h (x ∷ s) = ap (λ b. cond b (1 + prefix_len p s) 0) (h x) ∙ ap (λ n. cond (r x) (1 + n) 0) (prefix_as p r h s)

pub escape_free_chars : OfChars is_escape_free_byte is_escape_free
escape_free_chars =
    let both = both_chars is_in_line is_line_part is_unmarked is_unmarked line_chars (of_ascii is_unmarked unmarked_fails) in
    record {
      inside = λ c h. each_as same_byte (both.inside c h);
      first = λ c s h. sym (prefix_as (λ x. is_in_line x && is_unmarked x) is_escape_free_byte same_byte (encode_utf8 c ++ s)) ∙ both.first c s h;
    }

-- ---- a mask lane

either_lane : (a b : Bool) → bit_or (cond a 255 0) (cond b 255 0) ≡ cond (a || b) 255 0
either_lane true true = refl
either_lane true false = refl
either_lane false true = refl
either_lane false false = refl

lane_test : (a : Bool) → top 7 (cond a 255 0) ≡ a
lane_test true = refl
lane_test false = refl

from_left : (a b c d e f : Bool) → (((((a || b) || c) || d) || e) || f) ≡ (a || (b || (c || (d || (e || f)))))
from_left true b c d e f = refl
from_left false true c d e f = refl
from_left false false true d e f = refl
from_left false false false true e f = refl
from_left false false false false true f = refl
from_left false false false false false f = refl

lanes : (a b c d e f : Bool) → bit_or (bit_or (bit_or (bit_or (bit_or (cond a 255 0) (cond b 255 0)) (cond c 255 0)) (cond d 255 0)) (cond e 255 0)) (cond f 255 0) ≡ cond (((((a || b) || c) || d) || e) || f) 255 0
lanes a b c d e f =
    ap (λ z. bit_or (bit_or (bit_or (bit_or z (cond c 255 0)) (cond d 255 0)) (cond e 255 0)) (cond f 255 0)) (either_lane a b)
    ∙ ap (λ z. bit_or (bit_or (bit_or z (cond d 255 0)) (cond e 255 0)) (cond f 255 0)) (either_lane (a || b) c)
    ∙ ap (λ z. bit_or (bit_or z (cond e 255 0)) (cond f 255 0)) (either_lane ((a || b) || c) d)
    ∙ ap (λ z. bit_or z (cond f 255 0)) (either_lane (((a || b) || c) || d) e)
    ∙ either_lane ((((a || b) || c) || d) || e) f

pub escape_free_lane : (x : ℕ) → top 7 (bit_or (bit_or (bit_or (bit_or (bit_or (hit x 10) (hit x 13)) (hit x 226)) (hit x 34)) (hit x 39)) (hit x 92)) ≡ ends_escape_free x
escape_free_lane x =
    ap (top 7) (lanes (x == 10) (x == 13) (x == 226) (x == 34) (x == 39) (x == 92)) ∙ lane_test _ ∙ from_left (x == 10) (x == 13) (x == 226) (x == 34) (x == 39) (x == 92)

-- ---- a string that is one run

pub empty_from : (r : List ℕ) (b : Bool) → b ≡ (length r == 0) → b ≡ true → r ≡ []
empty_from [] b e t = refl
empty_from (c ∷ r) b e t = let k : suc (length r) ≡ 0 = eq_from (suc (length r)) 0 (sym e ∙ t) in absurd (omega arith)

pub escape_free_whole : (text rest : List ℕ) → SkipsAll is_escape_free text rest → rest ≡ [] → Each is_escape_free (chars text)
escape_free_whole text rest s e = subst (Each is_escape_free) (sym (s.split ∙ ap (λ r. s.passed ++ chars r) e ∙ ap (λ l. s.passed ++ l) chars-nil ∙ append-nil s.passed)) s.each
