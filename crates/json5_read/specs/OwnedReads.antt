-- Steps that keep what they read: a key, a value that is no collection.
-- A promise rests on this.
use Rattle.std.specs.Prelude.{◌≡◌, ◌⊎◌, ℕ, Bool, true, false, cond, List, Option, None, Result, MatchOption, MatchResult, IfOk, IfErr, OnErr, String, string_bytes}
use Rattle.std.specs.declared.alloc.Global.{Global}
use Rattle.std.specs.Str.{chars, encode_utf8_all}
use Rattle.json5_grammar.specs.Faults.Fronts.{of_object}
use Rattle.json5_grammar.specs.Model.Reading.{Read, got, and_then}
use Rattle.json5_grammar.specs.Model.ReadSteps.{separator, key_at}
use Rattle.json5_grammar.specs.Model.ReadValues.{read}
use Rattle.json5_grammar.specs.Language.Trees.{Tree}
use Rattle.json5_types.specs.declared.error.Error.{Error}
use Rattle.json5_tokens.specs.declared.short_texts.Span.{Span}
use Rattle.json5_tokens.specs.declared.text_token.TextToken.{TextToken}
use Rattle.json5_types.specs.declared.value.Value.{Value}
use Rattle.json5_tokens.specs.Cursor.{Cursor, IsOutOfMemory}
use Rattle.json5_types.specs.Errors.{LacksMemory}
use Rattle.json5_tokens.specs.ShortTexts.{IsTextAt}
use Rattle.json5_tokens.specs.TextTokens.{Spells}
use Rattle.json5_types.specs.ValueMeanings.{Datum, value_of}
use Rattle.json5_types.specs.ValueMeanings as datum
use Rattle.json5_read.specs.declared.kinds.Literal.{Literal}
use Rattle.json5_read.specs.declared.kinds.Literal.TheVariants as literal
use Rattle.json5_read.specs.TreeMeanings.{datum_of}
use Rattle.json5_read.specs.ModelSteps.{SameText, RefusesRead, Gave}

-- reading gives this fault, or memory ran out
abbrev pub BlamesOrMemory : {A : Type 0} → List ℕ → Read A → Error → Type 0
BlamesOrMemory input reading e = IsOutOfMemory e ⊎ RefusesRead input reading e

-- the same of a reading, however many brackets may be open
abbrev pub BlamesEach : {A : Type 0} → List ℕ → (ℕ → Read A) → Error → Type 0
BlamesEach input reading e = IsOutOfMemory e ⊎ ((room : ℕ) → RefusesRead input (reading room) e)

-- a step keeps what reading on lists gives
pub record Keeps {V A : Type 0} (Is : V → A → Type 0) (reading : Read A) (old new : Cursor) (result : Result V Error) : Type 0 where
  pub given : IfOk result (λ v. (a : A) × Is v a × Gave reading a old new)
  pub refused : IfErr result (BlamesOrMemory old.input reading)
  pub same_text : OnErr result (SameText old new)

-- ---- keys

-- an owned copy of a key's text, or memory ran out
abbrev pub OwnsKey : List ℕ → TextToken → Result (String Global) Error → Type 0
OwnsKey input key result = (u : List ℕ) (escape_free : Bool) → Spells input u escape_free key → MatchResult result (λ t. string_bytes t ≡ encode_utf8_all u) LacksMemory

-- the same of the text of a span
abbrev pub OwnsText : List ℕ → Span → Result (String Global) Error → Type 0
OwnsText input span result = MatchResult result (λ t. IsTextAt input span (string_bytes t)) LacksMemory

-- a key that was found
abbrev pub IsFoundKey : List ℕ → TextToken → List ℕ × Bool → Type 0
IsFoundKey input key a = Spells input a.0 a.1 key × (chars (encode_utf8_all a.0) ≡ a.0)

-- the next member's key, after a comma if one is due
abbrev pub next_key : Bool → List ℕ → Read (Option (List ℕ × Bool))
next_key false x = key_at x
next_key true x = and_then (separator of_object x) (λ goes y. cond goes (key_at y) (got None y))

-- ---- values

-- what the value in front is read as; at most `room` brackets may be open at once in it
abbrev pub tree_at : ℕ → Cursor → Read Tree
tree_at room s = read room s.unread

abbrev pub as_datum : Read Tree → Read Datum
as_datum m = and_then m (λ t r. got (datum_of t) r)

-- the same without the marks
abbrev pub datum_at : ℕ → Cursor → Read Datum
datum_at room s = as_datum (tree_at room s)

abbrev pub datum_of_literal : Literal → Datum
datum_of_literal literal.Null = datum.null
datum_of_literal literal.True = datum.boolean true
datum_of_literal literal.False = datum.boolean false

abbrev pub IsOfTree : Value → Tree → Type 0
IsOfTree v t = value_of v ≡ datum_of t

-- the value in front was taken, however many brackets may be open
abbrev pub KeepsValue : Cursor → Cursor → Value → Type 0
KeepsValue old new v = (room : ℕ) → Gave (datum_at room old) (value_of v) old new

-- the same, or nothing was taken
abbrev pub KeepsShort : Cursor → Cursor → Option Value → Type 0
KeepsShort old new result = MatchOption result (new ≡ old) (KeepsValue old new)

-- a value that is no collection is read
pub record ReadsScalar (old new : Cursor) (result : Result Value Error) : Type 0 where
  pub given : IfOk result (KeepsValue old new)
  pub refused : IfErr result (BlamesEach old.input (λ room. datum_at room old))
  pub same_text : OnErr result (SameText old new)

-- ---- the whole

-- the value in front was read
pub record ReadsDatum (room : ℕ) (old new : Cursor) (result : Result Value Error) : Type 0 where
  pub given : IfOk result (λ v. Gave (datum_at room old) (value_of v) old new)
  pub refused : IfErr result (BlamesOrMemory old.input (datum_at room old))
  pub same_text : SameText old new
