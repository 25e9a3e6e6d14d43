-- Whether a string holds a quote.
use Rattle.std.proofs.Common.{◌≡◌, ◌<◌, ℕ, List, [], ◌∷◌, ◌++◌, Bool, true, false, ◌||◌, ◌&&◌, not, if◌then◌else◌, ◌==◌, take, drop, refl, sym, ap, ◌∙◌, subst, take-append-drop, arith}
use Rattle.std.specs.Char.{encode_utf8}
use Rattle.std.specs.List.{list_any}
use Rattle.std.specs.Str.{IsUtf8, chars, NoCharPasses, NonePass, IsCharBoundary}
use Rattle.std.specs.Str.Pattern.{HasMatch, FindsChar}
use Rattle.std.proofs.lemmas.Str.{chars_from_encodes, chars-append, chars_past_char, IsUtf8-take, IsUtf8-drop, len_utf8_bounds, IsCharBoundary-before_ascii}
use Rattle.std.proofs.lemmas.List.Folds.{list_any-append}
use Rattle.json5_grammar.specs.Written.Quoting.{quote_for}
use Rattle.json5_grammar.proofs.CommonLemmas.{same_char}

none_passes : (p : ℕ → Bool) (cs : List ℕ) → NonePass p cs → list_any p cs ≡ false
none_passes p [] h = refl
none_passes p (c ∷ cs) h = ap (λ b. b || list_any p cs) h.0 ∙ none_passes p cs h.1

pub absent : (c : ℕ) (t : List ℕ) → IsUtf8 t → NoCharPasses (λ d. d == c) t → list_any (λ d. d == c) (chars t) ≡ false
absent c t u h = subst (λ cs. list_any (λ d. d == c) cs ≡ false) (chars_from_encodes h.0 t u h.1) (none_passes (λ d. d == c) h.0 h.2)

or_true : (a b : Bool) → b ≡ true → (a || b) ≡ true
or_true true b e = refl
or_true false b e = e

pub present : (c : ℕ) (t : List ℕ) → c < 128 → IsUtf8 t → HasMatch (FindsChar c) t → list_any (λ d. d == c) (chars t) ≡ true
present c t l u h =
    let i = h.0 in
    let j = h.1 in
    let at = h.2.1 in
    let bytes : take i t ++ (encode_utf8 c ++ drop j t) ≡ t = ap (λ x. take i t ++ x) (sym at.split) ∙ take-append-drop i t in
    let cut : IsCharBoundary t i =
    IsCharBoundary-before_ascii t i (omega (arith, at.ends, (len_utf8_bounds c).0, h.4)) (subst (λ b. b < 128) (sym (at.byte l)) l) in
    let rest : chars (encode_utf8 c ++ drop j t) ≡ c ∷ chars (drop j t) = chars_past_char _ (drop j t) c (subst IsUtf8 at.split (IsUtf8-drop t i u cut)) refl in
    let all : chars t ≡ chars (take i t) ++ c ∷ chars (drop j t) =
    ap chars (sym bytes) ∙ (chars-append (take i t) (encode_utf8 c ++ drop j t) (IsUtf8-take t i u cut) ∙ ap (λ x. chars (take i t) ++ x) rest) in
    ap (list_any (λ d. d == c)) all ∙ (list_any-append (λ d. d == c) (chars (take i t)) (c ∷ chars (drop j t)) ∙ or_true (list_any (λ d. d == c) (chars (take i t))) _ (ap (λ b. b || list_any (λ d. d == c) (chars (drop j t))) (same_char c)))

pub single_quotes : (u : List ℕ) → list_any (λ d. d == 34) u ≡ true → list_any (λ d. d == 39) u ≡ false → 39 ≡ quote_for u
single_quotes u e f = sym (ap (λ b. if b && not (list_any (λ d. d == 39) u) then 39 else 34) e ∙ ap (λ b. if not b then 39 else 34) f)

pub double_quotes : (u : List ℕ) → list_any (λ d. d == 34) u ≡ false → 34 ≡ quote_for u
double_quotes u e = sym (ap (λ b. if b && not (list_any (λ d. d == 39) u) then 39 else 34) e)

pub both_quotes : (u : List ℕ) → list_any (λ d. d == 34) u ≡ true → list_any (λ d. d == 39) u ≡ true → 34 ≡ quote_for u
both_quotes u e f = sym (ap (λ b. if b && not (list_any (λ d. d == 39) u) then 39 else 34) e ∙ ap (λ b. if not b then 39 else 34) f)
