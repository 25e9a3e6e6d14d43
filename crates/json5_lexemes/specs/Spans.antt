-- Texts of whole tokens, by the kind of the last one. Private clauses and proofs alone cite it.
-- Private.
use Rattle.std.specs.Prelude.{◌≡◌, ◌≢◌, ℕ, true, List, [], ◌∷◌, ◌++◌}
use Rattle.json5_grammar.specs.Language.Blanks.{Blanks, LastBlanks, Inside}
use Rattle.json5_grammar.specs.Language.Characters.{is_blank, is_terminator, slash_sign, star_sign, comma_sign, NotBegun, Each}
use Rattle.json5_grammar.specs.Language.Strings.{is_quote}
use Rattle.json5_lexemes.specs.Lexemes.{Quoted}
use Rattle.json5_lexemes.specs.Plain.{is_closing}
use Rattle.json5_lexemes.specs.SameLexemes.{is_sign, is_word_part, is_line_part}
use Rattle.json5_lexemes.specs.declared.plain.Last.{Last}
use Rattle.json5_lexemes.specs.declared.plain.Last.TheVariants as last

-- whole tokens of JSON5, commas, blanks and comments that have ended: what came last before is l, and after it m
pub data Spans : Last → List ℕ → Last → Type 0 where
  nothing : {l : Last} → Spans l [] l
  blank : {l m : Last} {c : ℕ} {r : List ℕ} → is_blank c ≡ true → Spans l r m → Spans l (c ∷ r) m
  line : {l m : Last} {x : List ℕ} (c : ℕ) {r : List ℕ} → Each is_line_part x → is_terminator c ≡ true → Spans l r m → Spans l (slash_sign ∷ slash_sign ∷ x ++ c ∷ r) m
  block : {l m : Last} {x r : List ℕ} → Inside x → Spans l r m → Spans l (slash_sign ∷ star_sign ∷ x ++ star_sign ∷ slash_sign ∷ r) m
  comma : {l m : Last} {r : List ℕ} → Spans last.Comma r m → Spans l (comma_sign ∷ r) m
  sign : {l m : Last} {c : ℕ} {r : List ℕ} → is_sign c ≡ true → Spans last.Sign r m → Spans l (c ∷ r) m
  word : {l m : Last} {s r : List ℕ} → s ≢ [] → Each is_word_part s → NotBegun is_word_part r → Spans last.Word r m → Spans l (s ++ r) m
  string : {l m : Last} {q : ℕ} {s r : List ℕ} → is_quote q ≡ true → Quoted q s → Spans last.Text r m → Spans l (q ∷ s ++ r) m

-- if what came last is a number, a literal or a name, r doesn't go on with it
abbrev pub Apart : Last → List ℕ → Type 0
Apart m r = m ≡ last.Word → NotBegun is_word_part r

-- what may follow an entry, or a document's value
pub data AfterEntry : List ℕ → Type 0 where
  at_comma : {w : List ℕ} (r : List ℕ) → Blanks w → AfterEntry (w ++ comma_sign ∷ r)
  at_bracket : {w : List ℕ} (c : ℕ) (r : List ℕ) → Blanks w → is_closing c ≡ true → AfterEntry (w ++ c ∷ r)
  at_end : {w : List ℕ} → LastBlanks w → AfterEntry w
