-- Words and the keys that they mean.
use denote.Ref.{Bor}
use Rattle.std.proofs.Common.{◌≡◌, ◌∙◌, ◌≤◌, ◌<◌, ◌+◌, ◌++◌, ◌∷◌, [], ℕ, zero, suc, Bool, true, false, ◌&&◌, ◌==◌, List, length, take, drop, refl, ap, sym, subst, arith, append_assoc, append-nil, IsUtf8, true≢false}
use Rattle.std.specs.Prelude.{IfSome, Option, Some, None, codes}
use Rattle.std.specs.Char.{encode_utf8, to_ascii_lowercase, IsScalar}
use Rattle.std.specs.Str.{chars}
use Rattle.std.specs.Str.Pattern.{FindsText, LacksTextAt, SplitsAroundMatch}
use Rattle.std.proofs.lemmas.Bool.Decides.{nat_tests}
use Rattle.std.proofs.lemmas.Str.{IsUtf8-past_char, IsUtf8-encode, chars_past_char, chars-nil}
use Rattle.std.specs.declared.alloc.Global.{Global}
use Rattle.std.specs.Cmp.Lexicographic.{pointwise}
use Rattle.std.specs.List.{list_any}
use Rattle.std.specs.Prelude.{String, string_bytes, nat_eq}
use Rattle.std.proofs.lemmas.List.{map-append}
use Rattle.json5_grammar.proofs.CommonLemmas.{eq_from}
use Rattle.json5_grammar.specs.Language.Numbers.{is_empty}
use Rattle.json5_types.specs.ValueMeanings.{Datum, fields_view}
use Rattle.json5_types.specs.declared.value.Value.{Value}
use Rattle.json5_types.proofs.LookedUp.{same_key}
use Rattle.json5_settings.specs.Words.{in_front, is_dropped, key_like, key_meant, keys_meant, lower, lowered, underscore, words_in}
use Rattle.json5_settings.specs.Keys.{SplitsWord, key_texts, member_in, words_left}

-- ---- words

unmarked : (c d : ℕ) (s : List ℕ) → LacksTextAt (codes "__") (c ∷ d ∷ s) 0 → ((c == underscore) && (d == underscore)) ≡ false
unmarked c d s none = go (c == underscore) (d == underscore) refl refl
  where
    go : (a b : Bool) → (c == underscore) ≡ a → (d == underscore) ≡ b → ((c == underscore) && (d == underscore)) ≡ false
    go false b h k = rw h refl
    go true false h k = rw (h, k) refl
    go true true h k = absurd (none s (ap (λ x. x ∷ d ∷ s) (eq_from c 0x5F h) ∙ ap (λ x. 0x5F ∷ x ∷ s) (eq_from d 0x5F k)))

one_more : (c d : ℕ) (s : List ℕ) → LacksTextAt (codes "__") (c ∷ d ∷ s) 0 → words_in (c ∷ d ∷ s) ≡ in_front c (words_in (d ∷ s))
one_more c d s none = rw (unmarked c d s none) refl

lacks_later : (c : ℕ) (s : List ℕ) (i : ℕ) → LacksTextAt (codes "__") (c ∷ s) (suc i) → LacksTextAt (codes "__") s i
lacks_later c s i none rest e = none rest e

parted : (i : ℕ) (s t : List ℕ) → ((k : ℕ) → k < i → LacksTextAt (codes "__") s k) → drop i s ≡ codes "__" ++ t → words_in s ≡ take i s ∷ words_in t
parted zero s t none e = ap words_in e
parted (suc i) [] t none e = absurd (none 0 (omega arith) t e)
parted (suc i) (c ∷ []) t none e = absurd (empty_tail i e)
  where
    empty_tail : (i : ℕ) → drop i [] ≡ codes "__" ++ t → ⊥
    empty_tail zero h = absurd (cc)
    empty_tail (suc i) h = absurd (cc)
parted (suc i) (c ∷ d ∷ s) t none e =
    one_more c d s (none 0 (omega arith)) ∙ ap (in_front c) (parted i (d ∷ s) t (λ k h. lacks_later c (d ∷ s) k (none (suc k) (omega (arith, h)))) e)

whole : (s : List ℕ) → ((k : ℕ) → k ≤ length s → LacksTextAt (codes "__") s k) → words_in s ≡ s ∷ []
whole [] none = refl
whole (c ∷ []) none = refl
whole (c ∷ d ∷ s) none =
    one_more c d s (none 0 (omega arith)) ∙ ap (in_front c) (whole (d ∷ s) (λ k h. lacks_later c (d ∷ s) k (none (suc k) (omega (arith, h)))))

pub word_alone : (name : List ℕ) → FindsText (codes "__") name None → SplitsWord name name None
word_alone name none = (whole name none, tt)

pub word_first : (name word : List ℕ) (others : Bor (List ℕ)) → SplitsAroundMatch (FindsText (codes "__")) name word others.now → SplitsWord name word (Some others)
word_first name word others (i, j, (none, at), front, back, low, long, left) =
    let two : j ≡ i + 2 = at.ends in (
      parted i name (drop j name) none at.split ∙ ap (λ z. z ∷ words_in (drop j name)) (sym front) ∙ ap (λ z. word ∷ words_in z) (sym back),
      omega (arith, left, two),
    )

-- ---- lower case

pub scalar_lower : (c : ℕ) → IsScalar c → IsScalar (to_ascii_lowercase c)
scalar_lower c h = grind (arith, h, nat_tests)

pub one_char : (c : ℕ) → IsScalar c → chars (encode_utf8 c) ≡ c ∷ []
one_char c h = chars_past_char (encode_utf8 c) [] c (IsUtf8-encode c h) (sym (append-nil (encode_utf8 c))) ∙ ap (λ z. c ∷ z) chars-nil

abbrev pub Lowers : Bool → (name rest made : List ℕ) → Type 0
Lowers marks name rest made = IsUtf8 rest × (lower marks (chars name) ≡ chars made ++ lower marks (chars rest))

pub lower_start : (marks : Bool) (name rest made : List ℕ) → IsUtf8 name → rest ≡ name → made ≡ [] → Lowers marks name rest made
lower_start marks name rest made utf8 same none =
    (subst IsUtf8 (sym same) utf8, ap (λ z. lower marks (chars z)) (sym same) ∙ ap (λ z. z ++ lower marks (chars rest)) (sym (ap chars none ∙ chars-nil)))

pub lower_more : (marks : Bool) (name rest next made new : List ℕ) (c : ℕ) → rest ≡ encode_utf8 c ++ next → chars new ≡ chars made ++ lowered marks c → Lowers marks name rest made → Lowers marks name next new
lower_more marks name rest next made new c split grown (utf8, so) = (
  IsUtf8-past_char rest next c utf8 split,
  so ∙ ap (λ z. chars made ++ lower marks z) (chars_past_char rest next c utf8 split) ∙ sym (append_assoc (chars made) (lowered marks c) (lower marks (chars next)))
      ∙ ap (λ z. z ++ lower marks (chars next)) (sym grown),
)

pub lowered_none : (marks : Bool) (c : ℕ) (x : List ℕ) → is_dropped marks c ≡ true → x ≡ x ++ lowered marks c
lowered_none marks c x h = rw h (sym (append-nil x))

pub lowered_one : (marks : Bool) (c : ℕ) (x : List ℕ) → is_dropped marks c ≡ false → x ++ to_ascii_lowercase c ∷ [] ≡ x ++ lowered marks c
lowered_one marks c x h = rw h refl

pub lower_ended : (marks : Bool) (name rest made : List ℕ) → length rest ≡ 0 → Lowers marks name rest made → chars made ≡ lower marks (chars name)
lower_ended marks name [] made none (utf8, so) = sym (so ∙ ap (λ z. chars made ++ lower marks z) chars-nil ∙ append-nil (chars made))
lower_ended marks name (c ∷ s) made none (utf8, so) = absurd (omega (arith, none))

-- ---- keys

pub like_here : (word : List ℕ) (fields rest : List (String Global × Value)) (f : String Global × Value) (k : List ℕ) → fields ≡ f ∷ rest → k ≡ chars (string_bytes f.0) → pointwise nat_eq (lower false (chars (string_bytes f.0))) (lower false word) ≡ true
    → Some k ≡ key_like word (fields_view fields)
like_here word fields rest f k e is same = rw (e, same) (ap Some is)

pub like_later : (word : List ℕ) (fields rest : List (String Global × Value)) (f : String Global × Value) → fields ≡ f ∷ rest → pointwise nat_eq (lower false (chars (string_bytes f.0))) (lower false word) ≡ false
    → key_like word (fields_view fields) ≡ key_like word (fields_view rest)
like_later word fields rest f e same = rw (e, same) refl

dropped : (i : ℕ) (xs : List (String Global × Value)) → length xs ≤ i → drop i xs ≡ []
dropped zero [] h = refl
dropped zero (x ∷ xs) h = absurd (omega (arith, h))
dropped (suc i) [] h = refl
dropped (suc i) (x ∷ xs) h = dropped i xs (omega (arith, h))

pub like_none : (word : List ℕ) (fields : List (String Global × Value)) (i : ℕ) → length fields ≤ i → None ≡ key_like word (fields_view (drop i fields))
like_none word fields i h = sym (ap (λ fs. key_like word (fields_view fs)) (dropped i fields h))

-- names are compared without case and marks
pub plain_test : (f : String Global × Value) (plain wanted : String Global) (a b name word : List ℕ) (p q : Bool) → IsUtf8 a → IsUtf8 b → a ≡ string_bytes plain → b ≡ string_bytes wanted → p ≡ pointwise nat_eq a b → p ≡ q
    → name ≡ string_bytes f.0 → chars (string_bytes plain) ≡ lower false (chars name) → chars (string_bytes wanted) ≡ lower false (chars word)
    → pointwise nat_eq (lower false (chars (string_bytes f.0))) (lower false (chars word)) ≡ q
plain_test f plain wanted a b name word p q ha hb na nb is e named mp mw =
    let base = same_key a b (plain, f.1) p q ha hb na is e in
    let left : chars (string_bytes plain) ≡ lower false (chars (string_bytes f.0)) = mp ∙ ap (λ n. lower false (chars n)) named in
    let right : chars b ≡ lower false (chars word) = ap chars nb ∙ mw in
    subst (λ z. pointwise nat_eq z (lower false (chars word)) ≡ q) left (subst (λ z. pointwise nat_eq (chars (string_bytes plain)) z ≡ q) right base)

-- one more key, of the first word that is left
pub one_key : (place next : Option Datum) (word name : List ℕ) (others : Option (Bor (List ℕ))) (keys : List (String Global)) (key : String Global) (all : List (List ℕ))
    → SplitsWord name word others → chars (string_bytes key) ≡ key_meant place (chars word) → next ≡ member_in (chars (string_bytes key)) place → all ≡ key_texts keys ++ keys_meant place (words_in name)
    → all ≡ key_texts (keys ++ (key ∷ [])) ++ keys_meant next (words_left others)
one_key place next word name others keys key all (split, shorter) is after e =
    let here : keys_meant place (words_in name) ≡ chars (string_bytes key) ∷ keys_meant next (words_left others) =
    ap (keys_meant place) split ∙ ap (λ k. k ∷ keys_meant (member_in k place) (words_left others)) (sym is) ∙ ap (λ p. chars (string_bytes key) ∷ keys_meant p (words_left others)) (sym after) in
    e ∙ ap (λ z. key_texts keys ++ z) here ∙ sym (append_assoc (key_texts keys) (chars (string_bytes key) ∷ []) (keys_meant next (words_left others)))
    ∙ ap (λ z. z ++ keys_meant next (words_left others)) (sym (map-append (λ (k : String Global). chars (string_bytes k)) keys (key ∷ [])))

-- a word that is not empty
pub later_words : (name word : List ℕ) (others : Option (Bor (List ℕ))) → SplitsWord name word others → is_empty word ≡ false → list_any is_empty (words_in name) ≡ list_any is_empty (words_left others)
later_words name word others (split, shorter) none = ap (list_any is_empty) split ∙ rw none refl

pub empty_here : (name word : List ℕ) (others : Option (Bor (List ℕ))) → SplitsWord name word others → is_empty word ≡ true → list_any is_empty (words_in name) ≡ true
empty_here name word others (split, shorter) so = ap (list_any is_empty) split ∙ rw so refl

pub no_word : (word : List ℕ) (b : Bool) → b ≡ (length word == 0) → b ≡ false → is_empty word ≡ false
no_word [] b e h = absurd (true≢false (sym e ∙ h))
no_word (c ∷ s) b e h = refl

-- ---- the measure

abbrev pub len_left : Option (Bor (List ℕ)) → ℕ
len_left None = 0
len_left (Some s) = suc (length s.now)

shorter : (others : Option (Bor (List ℕ))) (n : ℕ) → IfSome others (λ s. length s.now < n) → len_left others < suc n
shorter None n h = omega arith
shorter (Some s) n h = omega (arith, h)

pub smaller : (left others : Option (Bor (List ℕ))) (name : Bor (List ℕ)) (word : List ℕ) → left ≡ Some name → SplitsWord name.now word others → len_left others < len_left left
smaller left others name word is split = subst (λ z. len_left others < len_left z) (sym is) (shorter others (length name.now) split.1)
