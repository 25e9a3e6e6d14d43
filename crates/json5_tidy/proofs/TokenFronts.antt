-- What texts with the same tokens begin with.
use Rattle.std.proofs.Common.{◌≡◌, ℕ, Bool, true, false, List, [], ◌∷◌, ◌++◌, refl, sym, ap, ap₂, ◌∙◌, subst, arith}
use Rattle.std.specs.Prelude.{◌==◌}
use Rattle.std.proofs.lemmas.Bool.Decides.{nat_tests}
use Rattle.json5_grammar.specs.Language.Blanks.{Inside, Blanks}
use Rattle.json5_grammar.specs.Language.Blanks as blanks
use Rattle.json5_grammar.specs.Language.Characters.{is_blank, comma_sign, slash_sign, star_sign, NotBegun, Each}
use Rattle.json5_grammar.specs.Language.Strings.{is_quote}
use Rattle.json5_grammar.proofs.BlanksRead.{printable_no_blank}
use Rattle.json5_grammar.proofs.CommonLemmas.{neq_from}
use Rattle.json5_styles.specs.Json.{is_json_blank}
use Rattle.json5_lexemes.specs.Lexemes.{Quoted}
use Rattle.json5_lexemes.specs.SameLexemes.{is_separator, is_sign, is_word_part, is_line_part}
use Rattle.json5_lexemes.proofs.DocumentLexemes.{blank_separates}
use Rattle.json5_lexemes.proofs.OneList.{sign_apart, quote_apart, slash_apart, part_apart, each_head, one_string, one_block, one_run}
use Rattle.json5_tidy.specs.SameTokens.{SameTokens}
use Rattle.json5_tidy.specs.SameTokens as same

-- blanks of JSON, and then a text with P
pub record Behind (P : List ℕ → Type 0) (y : List ℕ) : Type 0 where
  pub front : List ℕ
  pub rest : List ℕ
  pub split : y ≡ front ++ rest
  pub blank : Blanks front
  pub holds : P rest

pub at_once : {P : List ℕ → Type 0} (y : List ℕ) → P y → Behind P y
at_once y p = record { front = []; rest = y; split = refl; blank = blanks.empty; holds = p }

pub json_blank : (c : ℕ) → is_json_blank c ≡ true → is_blank c ≡ true
json_blank c h = grind (arith, nat_tests)

behind_blank : {P : List ℕ → Type 0} (c : ℕ) (y : List ℕ) → is_json_blank c ≡ true → Behind P y → Behind P (c ∷ y)
behind_blank c y h b = record { front = c ∷ b.front; rest = b.rest; split = ap (λ z. c ∷ z) b.split; blank = blanks.blank (json_blank c h) b.blank; holds = b.holds }

-- ---- classes of characters

apart : {b : Bool} → b ≡ true → b ≡ false → ⊥
apart h n = let both : true ≡ false = sym h ∙ n in cc

no_separator : (c : ℕ) → is_blank c ≡ true → is_separator c ≡ false → ⊥
no_separator c h n = apart (blank_separates c h) n

head_is : {c d : ℕ} {x y : List ℕ} → c ∷ x ≡ d ∷ y → c ≡ d
head_is e = cc

tail_is : {c d : ℕ} {x y : List ℕ} → c ∷ x ≡ d ∷ y → x ≡ y
tail_is e = cc

-- ---- signs

-- a bracket or a colon
pub sign_front : (c : ℕ) (x y : List ℕ) → is_sign c ≡ true → SameTokens (c ∷ x) y → Behind (λ z. (r : List ℕ) × (z ≡ c ∷ r) × SameTokens x r) y
sign_front c x _ h (same.left_blank b s) = absurd (no_separator c b (sign_apart c h))
sign_front c x _ h (same.right_blank {c = d} {y = z} b s) = behind_blank d z b (sign_front c x z h s)
sign_front c x _ h (same.comma s) = absurd (cc)
sign_front c x _ h (same.sign {y = z} k s) = at_once (c ∷ z) (z, refl, s)
sign_front c x _ h (same.word e m n s) = absurd (apart h (part_apart c (each_head e)).1)
sign_front c x _ h (same.string q i s) = absurd (apart h (quote_apart c q).1)
sign_front c x _ h (same.line e m n s) = absurd (cc)
sign_front c x _ h (same.block i s) = absurd (cc)

comma_no_blank : is_blank comma_sign ≡ false
comma_no_blank = printable_no_blank comma_sign refl

pub comma_front : (x y : List ℕ) → SameTokens (comma_sign ∷ x) y → Behind (λ z. (r : List ℕ) × (z ≡ comma_sign ∷ r) × SameTokens x r) y
comma_front x _ (same.left_blank b s) = absurd (apart b comma_no_blank)
comma_front x _ (same.right_blank {c = d} {y = z} b s) = behind_blank d z b (comma_front x z s)
comma_front x _ (same.comma {y = z} s) = at_once (comma_sign ∷ z) (z, refl, s)
comma_front x _ (same.sign k s) = absurd (cc)
comma_front x _ (same.word e m n s) = absurd (let p : is_word_part comma_sign ≡ true = each_head e in cc)
comma_front x _ (same.string q i s) = absurd (cc)

-- ---- blanks

-- what is blank in front of the first text is passed over
pub past_left : (c : ℕ) (x y : List ℕ) → is_blank c ≡ true → SameTokens (c ∷ x) y → SameTokens x y
past_left c x _ h (same.left_blank b s) = s
past_left c x _ h (same.right_blank {y = z} b s) = same.right_blank b (past_left c x z h s)
past_left c x _ h (same.comma s) = absurd (apart h comma_no_blank)
past_left c x _ h (same.sign k s) = absurd (no_separator c h (sign_apart c k))
past_left c x _ h (same.word e m n s) = absurd (no_separator c h (part_apart c (each_head e)).0)
past_left c x _ h (same.string q i s) = absurd (no_separator c h (quote_apart c q).0)
past_left c x _ h (same.line e m n s) = absurd (no_separator slash_sign h slash_apart)
past_left c x _ h (same.block i s) = absurd (no_separator slash_sign h slash_apart)

-- and so is what is blank in front of the second
pub past_right : (c : ℕ) (x y : List ℕ) → is_blank c ≡ true → SameTokens x (c ∷ y) → SameTokens x y
past_right c _ y h (same.left_blank {x = z} b s) = same.left_blank b (past_right c z y h s)
past_right c _ y h (same.right_blank b s) = s
past_right c _ y h (same.comma s) = absurd (apart h comma_no_blank)
past_right c _ y h (same.sign k s) = absurd (no_separator c h (sign_apart c k))
past_right c _ y h (same.word e m n s) = absurd (no_separator c h (part_apart c (each_head e)).0)
past_right c _ y h (same.string q i s) = absurd (no_separator c h (quote_apart c q).0)
past_right c _ y h (same.line e m n s) = absurd (no_separator slash_sign h slash_apart)
past_right c _ y h (same.block i s) = absurd (no_separator slash_sign h slash_apart)

-- where the first text has ended, the second is blank
pub ends_blank : (y : List ℕ) → SameTokens [] y → Blanks y
ends_blank _ same.ends = blanks.empty
ends_blank _ (same.right_blank {c = c} {y = z} b s) = blanks.blank (json_blank c b) (ends_blank z s)

-- where the second has ended, the first is
pub none_left : (s r x : List ℕ) (c : ℕ) → SameTokens x [] → x ≡ s ++ c ∷ r → is_blank c ≡ false → ⊥
none_left [] r x c same.ends e n = cc
none_left (d ∷ s) r x c same.ends e n = cc
none_left [] r _ c (same.left_blank b k) e n = apart b (ap is_blank (head_is e) ∙ n)
none_left (d ∷ s) r _ c (same.left_blank {x = x} b k) e n = none_left s r x c k (tail_is e) n

-- ---- words, strings and comments

pub word_front : (c : ℕ) (w r x y : List ℕ) → Each is_word_part (c ∷ w) → NotBegun is_word_part r → SameTokens x y → x ≡ c ∷ w ++ r
    → Behind (λ z. (q : List ℕ) × (z ≡ c ∷ w ++ q) × NotBegun is_word_part q × SameTokens r q) y
word_front c w r _ _ e n same.ends k = absurd (cc)
word_front c w r _ _ e n (same.left_blank {c = d} b s) k = absurd (no_separator d b (ap is_separator (head_is k) ∙ (part_apart c (each_head e)).0))
word_front c w r x _ e n (same.right_blank {c = d} {y = z} b s) k = behind_blank d z b (word_front c w r x z e n s k)
word_front c w r _ _ e n (same.comma s) k = absurd (let p : is_word_part comma_sign ≡ true = ap is_word_part (head_is k) ∙ each_head e in cc)
word_front c w r _ _ e n (same.sign {c = d} h s) k = absurd (apart h (ap is_sign (head_is k) ∙ (part_apart c (each_head e)).1))
word_front c w r _ _ e n (same.word {c = d} {w = v} {x = u} {y = z} f m o s) k =
    let one = one_run u r f m e n k in
    at_once (d ∷ v ++ z) (z, ap (λ t. t ++ z) one.0, o, subst (λ t. SameTokens t z) one.1 s)
word_front c w r _ _ e n (same.string {q = d} q i s) k = absurd (apart q (ap is_quote (head_is k) ∙ (part_apart c (each_head e)).2))
word_front c w r _ _ e n (same.line f m o s) k = absurd (apart refl (ap (λ d. d == slash_sign) (head_is k) ∙ (part_apart c (each_head e)).3))
word_front c w r _ _ e n (same.block i s) k = absurd (apart refl (ap (λ d. d == slash_sign) (head_is k) ∙ (part_apart c (each_head e)).3))

pub string_front : (q : ℕ) (t r x y : List ℕ) → is_quote q ≡ true → Quoted q t → SameTokens x y → x ≡ q ∷ t ++ r
    → Behind (λ z. (u : List ℕ) × (z ≡ q ∷ t ++ u) × SameTokens r u) y
string_front q t r _ _ h i same.ends k = absurd (cc)
string_front q t r _ _ h i (same.left_blank {c = d} b s) k = absurd (no_separator d b (ap is_separator (head_is k) ∙ (quote_apart q h).0))
string_front q t r x _ h i (same.right_blank {c = d} {y = z} b s) k = behind_blank d z b (string_front q t r x z h i s k)
string_front q t r _ _ h i (same.comma s) k = absurd (let p : is_quote comma_sign ≡ true = ap is_quote (head_is k) ∙ h in cc)
string_front q t r _ _ h i (same.sign {c = d} g s) k = absurd (apart g (ap is_sign (head_is k) ∙ (quote_apart q h).1))
string_front q t r _ _ h i (same.word {c = d} f m o s) k = absurd (apart h (sym (ap is_quote (head_is k)) ∙ (part_apart d (each_head f)).2))
string_front q t r _ _ h i (same.string {q = d} {s = v} {x = u} {y = z} g j s) k =
    let one = one_string u r h (subst (λ a. Quoted a v) (head_is k) j) i (tail_is k) in
    at_once (d ∷ v ++ z) (z, ap₂ (λ a b. a ∷ b ++ z) (head_is k) one.0, subst (λ a. SameTokens a z) one.1 s)
string_front q t r _ _ h i (same.line f m o s) k = absurd (let p : is_quote slash_sign ≡ true = ap is_quote (head_is k) ∙ h in cc)
string_front q t r _ _ h i (same.block j s) k = absurd (let p : is_quote slash_sign ≡ true = ap is_quote (head_is k) ∙ h in cc)

pub line_front : (t r x y : List ℕ) → Each is_line_part t → NotBegun is_line_part r → SameTokens x y → x ≡ slash_sign ∷ slash_sign ∷ t ++ r
    → Behind (λ z. (q : List ℕ) × (z ≡ slash_sign ∷ slash_sign ∷ t ++ q) × NotBegun is_line_part q × SameTokens r q) y
line_front t r _ _ e n same.ends k = absurd (cc)
line_front t r _ _ e n (same.left_blank {c = d} b s) k = absurd (no_separator d b (ap is_separator (head_is k) ∙ slash_apart))
line_front t r x _ e n (same.right_blank {c = d} {y = z} b s) k = behind_blank d z b (line_front t r x z e n s k)
line_front t r _ _ e n (same.comma s) k = absurd (neq_from comma_sign slash_sign refl (head_is k))
line_front t r _ _ e n (same.sign {c = d} h s) k = absurd (let p : is_sign slash_sign ≡ true = sym (ap is_sign (head_is k)) ∙ h in cc)
line_front t r _ _ e n (same.word {c = d} f m o s) k = absurd (let p : (slash_sign == slash_sign) ≡ false = sym (ap (λ a. a == slash_sign) (head_is k)) ∙ (part_apart d (each_head f)).3 in cc)
line_front t r _ _ e n (same.string {q = d} h i s) k = absurd (let p : is_quote slash_sign ≡ true = sym (ap is_quote (head_is k)) ∙ h in cc)
line_front t r _ _ e n (same.line {s = v} {x = u} {y = z} f m o s) k =
    let one = one_run u r f m e n (tail_is (tail_is k)) in
    at_once (slash_sign ∷ slash_sign ∷ v ++ z) (z, ap (λ a. slash_sign ∷ slash_sign ∷ a ++ z) one.0, o, subst (λ a. SameTokens a z) one.1 s)
line_front t r _ _ e n (same.block i s) k = absurd (neq_from star_sign slash_sign refl (head_is (tail_is k)))

pub block_front : (t r x y : List ℕ) → Inside t → SameTokens x y → x ≡ slash_sign ∷ star_sign ∷ t ++ star_sign ∷ slash_sign ∷ r
    → Behind (λ z. (q : List ℕ) × (z ≡ slash_sign ∷ star_sign ∷ t ++ star_sign ∷ slash_sign ∷ q) × SameTokens r q) y
block_front t r _ _ i same.ends k = absurd (cc)
block_front t r _ _ i (same.left_blank {c = d} b s) k = absurd (no_separator d b (ap is_separator (head_is k) ∙ slash_apart))
block_front t r x _ i (same.right_blank {c = d} {y = z} b s) k = behind_blank d z b (block_front t r x z i s k)
block_front t r _ _ i (same.comma s) k = absurd (neq_from comma_sign slash_sign refl (head_is k))
block_front t r _ _ i (same.sign {c = d} h s) k = absurd (let p : is_sign slash_sign ≡ true = sym (ap is_sign (head_is k)) ∙ h in cc)
block_front t r _ _ i (same.word {c = d} f m o s) k = absurd (let p : (slash_sign == slash_sign) ≡ false = sym (ap (λ a. a == slash_sign) (head_is k)) ∙ (part_apart d (each_head f)).3 in cc)
block_front t r _ _ i (same.string {q = d} h j s) k = absurd (let p : is_quote slash_sign ≡ true = sym (ap is_quote (head_is k)) ∙ h in cc)
block_front t r _ _ i (same.line f m o s) k = absurd (neq_from slash_sign star_sign refl (head_is (tail_is k)))
block_front t r _ _ i (same.block {s = v} {x = u} {y = z} j s) k =
    let one = one_block u r j i (tail_is (tail_is k)) in
    at_once (slash_sign ∷ star_sign ∷ v ++ star_sign ∷ slash_sign ∷ z) (z, ap (λ a. slash_sign ∷ star_sign ∷ a ++ star_sign ∷ slash_sign ∷ z) one.0, subst (λ a. SameTokens a z) one.1 s)
