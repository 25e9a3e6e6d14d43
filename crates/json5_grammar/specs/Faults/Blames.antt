-- A fault by its parts, and what laws say of the faults of one kind.
-- A promise rests on this.
use Rattle.std.specs.Prelude.{◌≡◌, ℕ, Bool, false, List, [], ◌∷◌, ◌++◌, ◌≤◌, Option, Some}
use Rattle.json5_grammar.specs.Language.Characters.{NotBegun}
use Rattle.json5_grammar.specs.Faults.Codes.{ErrorCode, Shown, by_char, by_end}
use Rattle.json5_grammar.specs.Language.Blanks.{Gap, Solid}
use Rattle.json5_grammar.specs.Faults.Tokens.{BlankFault, NameFault, NumberFault, StringFault, WordFault}
use Rattle.json5_grammar.specs.Language.Names.{Ident, goes_on_name}
use Rattle.json5_grammar.specs.Language.Numbers.{Number, Num, lengthens}
use Rattle.json5_grammar.specs.Language.Strings.{Str}
use Rattle.json5_grammar.specs.Language.Documents.{Doc}
use Rattle.json5_grammar.specs.Faults.{Fault, ValueFault}
use Rattle.json5_grammar.specs.Language.Trees.{Tree, depth}
use Rattle.json5_grammar.specs.Language.Values.{Reads}

-- the code (None: custom), what comes before the position (None: it has none), what comes before the faulty part, the part, and what shows it
pub record Blame : Type 0 where
  pub code : Option ErrorCode
  pub place : Option (List ℕ)
  pub before : List ℕ
  pub part : List ℕ
  pub shown : Shown

-- ---- kinds of faults

abbrev pub BlankBlame : List ℕ → Blame → Type 0
BlankBlame x b = BlankFault x b.code b.place b.before b.part b.shown

abbrev pub StringBlame : List ℕ → Blame → Type 0
StringBlame x b = StringFault x b.code b.place b.before b.part b.shown

abbrev pub NameBlame : List ℕ → Blame → Type 0
NameBlame x b = NameFault x b.code b.place b.before b.part b.shown

-- x begins with the faulty part
abbrev pub WordBlame : List ℕ → Blame → Type 0
WordBlame x b = (b.before ≡ []) × WordFault x b.code b.place b.part b.shown

abbrev pub NumberBlame : List ℕ → Blame → Type 0
NumberBlame x b = (b.before ≡ []) × NumberFault x b.code b.place b.part b.shown

-- of a whole input, and of the value in front of one; nested no deeper than the limit
abbrev pub TextBlame : ℕ → List ℕ → Blame → Type 0
TextBlame limit x b = Fault limit x b.code b.place b.before b.part b.shown

abbrev pub ValueBlame : ℕ → List ℕ → Blame → Type 0
ValueBlame limit x b = ValueFault limit x b.code b.place b.before b.part b.shown

-- ---- what an input begins with

abbrev pub IsDocument : ℕ → List ℕ → Type 0
IsDocument limit x = (t : Tree) × Doc limit x t

-- a value after blanks, nested no deeper than the limit
abbrev pub HasValue : ℕ → List ℕ → Type 0
HasValue limit x = (t : Tree) × (r : List ℕ) × Reads x t r × (depth t ≤ limit)

-- blanks, and then what is none
abbrev pub HasGap : List ℕ → Type 0
HasGap x = (w : List ℕ) × (r : List ℕ) × (x ≡ w ++ r) × Gap w r × Solid r

abbrev pub HasNumber : List ℕ → Type 0
HasNumber x = (s : List ℕ) × (r : List ℕ) × (n : Number) × (x ≡ s ++ r) × Num s n × NotBegun (lengthens s) r

abbrev pub HasString : List ℕ → Type 0
HasString x = (s : List ℕ) × (u : List ℕ) × (p : Bool) × (r : List ℕ) × (x ≡ s ++ r) × Str s u p

-- a name, and a character that ends it
abbrev pub HasName : List ℕ → Type 0
HasName x = (s : List ℕ) × (u : List ℕ) × (p : Bool) × (d : ℕ) × (r : List ℕ) × (x ≡ s ++ d ∷ r) × Ident s u p × (goes_on_name d ≡ false)

-- a fault of the kind
abbrev pub IsBlamed : (List ℕ → Blame → Type 0) → List ℕ → Type 0
IsBlamed HasFault x = (b : Blame) × HasFault x b

-- ---- laws of a kind of faults

-- the faults of one input have one code and one position
abbrev pub BlamesOnce : (List ℕ → Blame → Type 0) → Type 0
BlamesOnce HasFault = (x : List ℕ) (b c : Blame) → HasFault x b → HasFault x c → (b.code ≡ c.code) × (b.place ≡ c.place)

-- a fault of the kind that a character shows
pub record ShownByChar (HasFault : List ℕ → Blame → Type 0) (x : List ℕ) (b : Blame) : Type 0 where
  pub fault : HasFault x b
  pub shown : b.shown ≡ by_char

-- a fault that a character shows remains, whatever follows the part
abbrev pub StandsByChar : (List ℕ → Blame → Type 0) → Type 0
StandsByChar HasFault = (x z : List ℕ) (b : Blame) → ShownByChar HasFault x b → HasFault ((b.before ++ b.part) ++ z) b

-- ---- where the part is

-- what follows the part: nothing where the end shows the fault
abbrev pub IsRest : Shown → List ℕ → Type 0
IsRest by_char q = Unit {0}
IsRest by_end q = q ≡ []

-- x is what comes before the part, the part, and the rest
abbrev pub StandsIn : List ℕ → List ℕ → List ℕ → Shown → Type 0
StandsIn x before part how = (q : List ℕ) × (x ≡ (before ++ part) ++ q) × IsRest how q

-- the part ends with the character that shows the fault, and the position is at that character or before it, within the part
pub record Shows (before part : List ℕ) (place : Option (List ℕ)) : Type 0 where
  pub front : List ℕ
  pub char : ℕ
  pub ends : part ≡ front ++ char ∷ []
  pub early : List ℕ
  pub late : List ℕ
  pub split : front ≡ early ++ late
  pub at : place ≡ Some (before ++ early)
