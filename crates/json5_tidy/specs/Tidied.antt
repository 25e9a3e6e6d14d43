-- What tidying keeps.
-- A promise rests on this.
use Rattle.std.specs.declared.alloc.Global.{Global}
use Rattle.std.specs.Prelude.{◌≡◌, ◌≢◌, ◌⊎◌, ℕ, Bool, List, Result, IfErr, IfOk, String, string_bytes}
use Rattle.std.specs.Str.{chars}
use Rattle.json5_grammar.specs.Language.Documents.{Doc, max_depth}
use Rattle.json5_grammar.specs.Language.Trees.{Tree}
use Rattle.json5_types.specs.declared.error.Error.{Error}
use Rattle.json5_tokens.specs.Cursor.{IsOutOfMemory}
use Rattle.json5_read.specs.DocumentReads.{IsRefused}
use Rattle.json5_lexemes.specs.AlikeLexemes.{HaveAlikeLexemes}
use Rattle.json5_lexemes.specs.Plain.{KeepsPlain}
use Rattle.json5_tidy.specs.declared.style.LastCommas.TheVariants as commas
use Rattle.json5_tidy.specs.declared.style.Style.{Style}
use Rattle.json5_tidy.specs.SameTokens.{SameTokens}
use Rattle.json5_tidy.specs.Styles.{may_move}

-- x and y are documents of one tree, marks included, and they have the same lexemes: tokens as they are spelled, and comments,
-- star comments but for the blanks in front of their lines if these move
pub record Keeps (move : Bool) (x y : List ℕ) : Type 0 where
  pub tree : Tree
  pub before : Doc max_depth x tree
  pub after : Doc max_depth y tree
  pub lexemes : HaveAlikeLexemes move x y

-- y is a document, and has the lexemes of x
pub record IsLaidOut (move : Bool) (x y : List ℕ) : Type 0 where
  pub tree : Tree
  pub document : Doc max_depth y tree
  pub lexemes : HaveAlikeLexemes move x y

-- y is x, or has its tokens, commas and comments and JSON's blanks, or is a document with the lexemes of x
abbrev pub IsAlike : Bool → List ℕ → List ℕ → Type 0
IsAlike move x y = (y ≡ x) ⊎ (SameTokens x y ⊎ IsLaidOut move x y)

-- what is returned keeps what the text has
abbrev pub KeepsText : Style → (text : List ℕ) → Result (String Global) Error → Type 0
KeepsText style text result = IfOk result (λ s. Keeps (may_move style.stars) (chars text) (chars (string_bytes s)))

-- a document is refused only where memory runs out
abbrev pub TakesDocument : (text : List ℕ) → Result (String Global) Error → Type 0
TakesDocument text result = (t : Tree) → Doc max_depth (chars text) t → IfErr result IsOutOfMemory

-- any other text is refused as `format` refuses it
abbrev pub RefusesText : (text : List ℕ) → Result (String Global) Error → Type 0
RefusesText text result = IfErr result (IsRefused (chars text))

-- JSON stays JSON, and JSON but for comments stays so, unless last commas are to come anyhow
abbrev pub KeepsJson : {E : Type 0} → Style → (text : List ℕ) → Result (String Global) E → Type 0
KeepsJson style text result = style.last_commas ≢ commas.Always → IfOk result (λ s. KeepsPlain text (string_bytes s))

-- what the tidied text of a text is, or why there is none
pub record TidiesText (style : Style) (text : List ℕ) (result : Result (String Global) Error) : Type 0 where
  pub kept : KeepsText style text result
  pub plain : KeepsJson style text result
  pub complete : TakesDocument text result
  pub refused : RefusesText text result
