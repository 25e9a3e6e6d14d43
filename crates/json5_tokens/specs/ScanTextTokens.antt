-- What private clauses say of the tokens of strings and keys.
-- Private.
use Rattle.std.specs.Prelude.{◌≡◌, ℕ, ◌+◌, Bool, List, ◌++◌, length, Result, Ok, Err}
use denote.Ref.{Bor}
use Rattle.json5_grammar.specs.Model.Reading.{Read}
use Rattle.json5_types.specs.declared.cow_str.CowStr.{CowStr}
use Rattle.json5_types.specs.declared.cow_str.CowStr.TheVariants as cow
use Rattle.json5_tokens.specs.declared.text_token.TextToken.{TextToken}
use Rattle.json5_tokens.specs.declared.text_token.TextToken.TheVariants as token
use Rattle.json5_tokens.specs.declared.refusal.Refusal.{Refusal}
use Rattle.json5_tokens.specs.TokenResults.{GivesText, RefusesText}
use Rattle.json5_tokens.specs.Outcome.{bytes_in}
use Rattle.json5_tokens.specs.TextTokens.{Spells}

-- the token of a text that begins at this offset, if it is borrowed
abbrev pub IsTokenOf : ℕ → CowStr → TextToken → Type 0
IsTokenOf start (cow.Borrowed text) t = t ≡ token.EscapeFree (record { start = start; end = start + length text.now })
IsTokenOf start (cow.Owned text) t = t ≡ token.Escaped text

-- the token spells u in each input of so many bytes that ends in x
abbrev pub IsTokenIn : ℕ → List ℕ → TextToken → List ℕ → Bool → Type 0
IsTokenIn end x t u escape_free = (before : List ℕ) → end ≡ bytes_in (before ++ x) → Spells (before ++ x) u escape_free t

-- x is the end of an input of so many bytes: the token that reading gives there, and what follows it; or the fault
abbrev pub AnswersToken : ℕ → List ℕ → Read (List ℕ × Bool) → Result (TextToken × Bor (List ℕ)) Refusal → Type 0
AnswersToken end x reading (Ok p) = GivesText (IsTokenIn end x) reading p.0 p.1.now
AnswersToken end x reading (Err e) = RefusesText e reading
