-- One step of passing over blanks and words.
use Rattle.std.proofs.Common.{Some, ◌≡◌, ℕ, true, false, List, [], ◌∷◌, refl, arith}
use Rattle.std.specs.Prelude.{◌==◌}
use Rattle.json5_grammar.specs.Language.Characters.{is_blank, is_terminator, NotBegun}
use Rattle.json5_grammar.specs.declared.error_code.ErrorCode.TheVariants.{EofParsingComment, ExpectedComment}
use Rattle.json5_grammar.specs.declared.error_code.ErrorCode.{ErrorCode}
use Rattle.json5_grammar.proofs.BlanksRead.{skip_slash}
use Rattle.json5_grammar.specs.Model.Reading.{got, bad, here, inner, word_at}
use Rattle.json5_grammar.specs.Model.ReadBlanks.{skip, between, slash, Mode}

pub line_end : (c : ℕ) (xs ys : List ℕ) → xs ≡ c ∷ ys → is_terminator c ≡ true → skip Mode.line xs ≡ skip between ys
unfolding skip
line_end c xs ys e h = rw (e, h)

pub line_more : (c : ℕ) (xs ys : List ℕ) → xs ≡ c ∷ ys → is_terminator c ≡ false → skip Mode.line xs ≡ skip Mode.line ys
unfolding skip
line_more c xs ys e h = rw (e, h)

pub line_none : (xs : List ℕ) → xs ≡ [] → skip Mode.line xs ≡ skip between xs
unfolding skip
line_none xs e = rw e

pub blank_more : (c : ℕ) (xs ys : List ℕ) → xs ≡ c ∷ ys → is_blank c ≡ true → skip between xs ≡ skip between ys
unfolding skip
blank_more c xs ys e h = rw (e, h)

pub at_slash : (c : ℕ) (xs ys : List ℕ) → xs ≡ c ∷ ys → c ≡ 47 → skip between xs ≡ skip slash ys
unfolding skip
at_slash c xs ys e h = rw (e, h) (skip_slash ys)

pub at_solid : (c : ℕ) (xs ys : List ℕ) → xs ≡ c ∷ ys → is_blank c ≡ false → (c ≡ 47 → ⊥) → skip between xs ≡ got tt xs
unfolding skip
at_solid c xs ys e h n = let t : (c == 47) ≡ false = grind arith in rw (e, h, t)

pub at_none : (xs : List ℕ) → xs ≡ [] → skip between xs ≡ got tt xs
unfolding skip
at_none xs e = rw e

pub block_end : (c d : ℕ) (xs ys zs : List ℕ) → xs ≡ c ∷ ys → c ≡ 42 → ys ≡ d ∷ zs → d ≡ 47 → skip Mode.block xs ≡ skip between zs
unfolding skip
block_end c d xs ys zs e h k j = rw (e, h, k, j)

-- a star that no slash follows
star_block : (ys : List ℕ) → NotBegun (λ d. d == 47) ys → skip Mode.star ys ≡ skip Mode.block ys
unfolding skip
star_block [] n = refl
star_block (d ∷ zs) n = rw n refl

pub block_star : (c : ℕ) (xs ys : List ℕ) → xs ≡ c ∷ ys → c ≡ 42 → NotBegun (λ d. d == 47) ys → skip Mode.block xs ≡ skip Mode.block ys
unfolding skip
block_star c xs ys e h n = rw (e, h) (star_block ys n)

pub block_more : (c : ℕ) (xs ys : List ℕ) → xs ≡ c ∷ ys → (c ≡ 42 → ⊥) → skip Mode.block xs ≡ skip Mode.block ys
unfolding skip
block_more c xs ys e n = let t : (c == 42) ≡ false = grind arith in rw (e, t)

pub block_none : (xs : List ℕ) → xs ≡ [] → skip Mode.block xs ≡ bad (Some EofParsingComment) inner
unfolding skip
block_none xs e = rw e

-- after the slash
pub slash_none : (xs : List ℕ) → xs ≡ [] → skip slash xs ≡ bad (Some EofParsingComment) inner
unfolding skip
slash_none xs e = rw e

pub slash_slash : (c : ℕ) (xs ys : List ℕ) → xs ≡ c ∷ ys → c ≡ 47 → skip slash xs ≡ skip Mode.line ys
unfolding skip
slash_slash c xs ys e h = rw (e, h)

pub slash_star : (c : ℕ) (xs ys : List ℕ) → xs ≡ c ∷ ys → c ≡ 42 → skip slash xs ≡ skip Mode.block ys
unfolding skip
slash_star c xs ys e h = rw (e, h)

pub slash_other : (c : ℕ) (xs ys : List ℕ) → xs ≡ c ∷ ys → (c ≡ 47 → ⊥) → (c ≡ 42 → ⊥) → skip slash xs ≡ bad (Some ExpectedComment) (here xs)
unfolding skip
slash_other c xs ys e n k = let t : (c == 47) ≡ false = grind arith in let u : (c == 42) ≡ false = grind arith in rw e (rw (t, u) refl)

pub ruleset line_steps = (line_end, line_more, line_none, blank_more, at_slash, at_solid, at_none)

-- ---- words

pub word_none : (e d : ErrorCode) (ks xs : List ℕ) → ks ≡ [] → word_at e d (tt {0}) ks xs ≡ got tt xs
unfolding word_at
word_none e d ks xs h = rw h

pub word_ends : (e d : ErrorCode) (k : ℕ) (ks ls xs : List ℕ) → ks ≡ k ∷ ls → xs ≡ [] → word_at e d (tt {0}) ks xs ≡ bad (Some e) inner
unfolding word_at
word_ends e d k ks ls xs h i = rw (h, i)

pub word_more : (e d : ErrorCode) (k c : ℕ) (ks ls xs ys : List ℕ) → ks ≡ k ∷ ls → xs ≡ c ∷ ys → c ≡ k → word_at e d (tt {0}) ks xs ≡ word_at e d tt ls ys
unfolding word_at
word_more e d k c ks ls xs ys h i j = let t : (c == k) ≡ true = grind arith in rw (h, i) (rw t)

pub word_differs : (e d : ErrorCode) (k c : ℕ) (ks ls xs ys : List ℕ) → ks ≡ k ∷ ls → xs ≡ c ∷ ys → (c ≡ k → ⊥) → word_at e d (tt {0}) ks xs ≡ bad (Some d) (here xs)
unfolding word_at
word_differs e d k c ks ls xs ys h i j = let t : (c == k) ≡ false = grind arith in rw (h, i) (rw t)

pub ruleset word_steps = (word_none, word_more)
