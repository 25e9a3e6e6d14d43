-- Paths as text: which steps a text spells. All is told of bytes.
-- A promise rests on this.
use Rattle.std.specs.Prelude.{◌≡◌, ◌≢◌, ◌⊎◌, ◌<◌, ◌==◌, ◌||◌, not, ℕ, Bool, true, false, List, [], ◌∷◌, ◌++◌, length, Some, None, ⊤, get_or, String, string_bytes}
use Rattle.std.specs.List.{list_all}
use Rattle.std.specs.declared.alloc.Global.{Global}
use Rattle.std.specs.Str.{chars}
use Rattle.std.specs.Str.Parse.{digits_value}
use Rattle.json5_grammar.specs.Language.Characters.{digit_one, digit_zero, is_digit, left_bracket, point_sign, right_bracket, slash_sign}
use Rattle.json5_grammar.specs.Language.Documents.{Doc, max_depth}
use Rattle.json5_grammar.specs.Language.Strings.{is_quote}
use Rattle.json5_grammar.specs.Language.Trees.{Tree, Trees, array}
use Rattle.json5_tokens.specs.Outcome.{bytes_in}
use Rattle.json5_types.specs.Pointers.{escaped_key, index_in, parts_of, tilde}
use Rattle.json5_edit.specs.Parts.{part, positions_of}
use Rattle.json5_edit.specs.declared.paths.Step.{Step}
use Rattle.json5_edit.specs.declared.paths.Step.TheVariants as step
use Rattle.json5_edit.specs.declared.path_texts.parsed.Path.{Path}
use Rattle.json5_edit.specs.declared.path_texts.parsed.Written.{Written}
use Rattle.json5_edit.specs.declared.path_texts.parsed.Written.TheVariants as written

-- `.`, `[` and `]` end a name
abbrev pub is_in_name : ℕ → Bool
is_in_name b = not ((b == point_sign) || ((b == left_bracket) || (b == right_bracket)))

abbrev pub Lacks : ℕ → List ℕ → Type 0
Lacks b bytes = (i : ℕ) → i < length bytes → get_or bytes i 0 ≢ b

-- ---- names with dots between them, indices and keys between brackets

-- a dot stands before each name but one at the start
abbrev pub dot_unless : (first : Bool) → List ℕ
dot_unless true = []
dot_unless false = point_sign ∷ []

abbrev pub SpellsName : (first : Bool) → Written → List ℕ → Type 0
SpellsName first (written.Key key) spelled = (spelled ≡ dot_unless first ++ string_bytes key) × (string_bytes key ≢ []) × (list_all is_in_name (string_bytes key) ≡ true)
SpellsName first (written.Index n) spelled = ⊥
SpellsName first (written.Digits key n) spelled = ⊥

-- a key between quotes, which it lacks itself, or an index in decimal digits
abbrev pub SpellsInside : Written → List ℕ → Type 0
SpellsInside (written.Key key) spelled = (q : ℕ) × (is_quote q ≡ true) × (spelled ≡ q ∷ string_bytes key ++ q ∷ []) × Lacks q (string_bytes key)
SpellsInside (written.Index n) spelled = (spelled ≢ []) × (list_all is_digit spelled ≡ true) × (n ≡ digits_value 10 spelled)
SpellsInside (written.Digits key n) spelled = ⊥

abbrev pub SpellsBetween : Written → List ℕ → Type 0
SpellsBetween w spelled = (inside : List ℕ) × (spelled ≡ left_bracket ∷ inside ++ right_bracket ∷ []) × SpellsInside w inside

abbrev pub SpellsStep : (first : Bool) → Written → List ℕ → Type 0
SpellsStep first w spelled = SpellsName first w spelled ⊎ SpellsBetween w spelled

-- one step after another
abbrev pub SpellsDotted : (first : Bool) → List Written → List ℕ → Type 0
SpellsDotted first [] text = text ≡ []
SpellsDotted first (w ∷ ws) text = (spelled : List ℕ) × (rest : List ℕ) × (text ≡ spelled ++ rest) × SpellsStep first w spelled × SpellsDotted false ws rest

-- ---- pointers (RFC 6901)

-- a part that is an index may be a key, too
abbrev pub SpellsPart : Written → List ℕ → Type 0
SpellsPart (written.Key key) part = (index_in part ≡ None) × (escaped_key (string_bytes key) ≡ part)
SpellsPart (written.Index n) part = ⊥
SpellsPart (written.Digits key n) part = (index_in part ≡ Some n) × (string_bytes key ≡ part)

abbrev pub SpellsParts : List Written → List (List ℕ) → Type 0
SpellsParts [] [] = ⊤
SpellsParts (w ∷ ws) (part ∷ parts) = SpellsPart w part × SpellsParts ws parts
SpellsParts _ _ = ⊥

-- the text begins with a slash and is a pointer, or it doesn't and isn't
abbrev pub SpellsWritten : List Written → List ℕ → Type 0
SpellsWritten ws text = ((rest : List ℕ) × (text ≡ slash_sign ∷ rest) × SpellsParts ws (parts_of rest))
    ⊎ (((rest : List ℕ) → text ≢ slash_sign ∷ rest) × SpellsDotted true ws text)

abbrev pub SpellsPath : Path → List ℕ → Type 0
SpellsPath path text = SpellsWritten path.written.items text

-- ---- the steps in a text

-- the text is a document in which the path leads to an array, or to none
abbrev pub LeadsToArrayIf : (text : List ℕ) → List Step → Bool → Type 0
LeadsToArrayIf text path true = (t : Tree) × Doc max_depth (chars text) t × ((positions : List ℕ) × (ts : Trees) × (positions_of path t ≡ Some positions) × (part positions t ≡ Some (array ts)))
LeadsToArrayIf text path false = (t : Tree) × Doc max_depth (chars text) t × ((positions : List ℕ) (ts : Trees) → positions_of path t ≡ Some positions → part positions t ≡ Some (array ts) → ⊥)

-- the step is what was written: an index or a key; digits are an index where the steps before lead to an array
abbrev pub IsStepOf : (text : List ℕ) → (before : List Step) → Written → Step → Type 0
IsStepOf text before (written.Key key) (step.Key k) = k.now ≡ string_bytes key
IsStepOf text before (written.Index n) (step.Index m) = m ≡ n
IsStepOf text before (written.Digits key n) (step.Key k) = (k.now ≡ string_bytes key) × LeadsToArrayIf text before false
IsStepOf text before (written.Digits key n) (step.Index m) = (m ≡ n) × LeadsToArrayIf text before true
IsStepOf text before (written.Key key) (step.Index m) = ⊥
IsStepOf text before (written.Index n) (step.Key k) = ⊥

-- one after another
pub data AreStepsOf (text : List ℕ) : List Written → List Step → Type 0 where
  no_step : AreStepsOf text [] []
  one_more : {ws : List Written} {ss : List Step} (w : Written) (s : Step) → AreStepsOf text ws ss → IsStepOf text ss w s → AreStepsOf text (ws ++ w ∷ []) (ss ++ s ∷ [])

-- ---- private clauses cite these

abbrev pub starts_array : List ℕ → Bool
starts_array [] = false
starts_array (c ∷ x) = c == left_bracket

-- a name is in front
abbrev pub SplitsName : (whole name after : List ℕ) → Type 0
SplitsName whole name after = (whole ≡ name ++ after) × (list_all is_in_name name ≡ true)

-- a step is in front
pub record ReadsStep (first : Bool) (text : List ℕ) (w : Written) (after : List ℕ) : Type 0 where
  pub spelled : List ℕ
  pub split : text ≡ spelled ++ after
  pub step : SpellsStep first w spelled
  pub shorter : length after < length text

-- what an opening bracket stands before is in front, and its closing bracket
abbrev pub ReadsBetween : (text : List ℕ) → Written → (after : List ℕ) → Type 0
ReadsBetween text w after = (inside : List ℕ) × (text ≡ inside ++ right_bracket ∷ after) × SpellsInside w inside

abbrev pub ReadsInside : (text : List ℕ) → Written → (after : List ℕ) → Type 0
ReadsInside text w after = (inside : List ℕ) × (text ≡ inside ++ after) × SpellsInside w inside

-- an index is in front
abbrev pub ReadsIndex : (text : List ℕ) → ℕ → (after : List ℕ) → Type 0
ReadsIndex text n after = ReadsInside text (written.Index n) after

-- after the quote q, which stands before the text
abbrev pub ReadsQuoted : ℕ → (text : List ℕ) → Written → (after : List ℕ) → Type 0
ReadsQuoted q text w after = is_quote q ≡ true → ReadsInside (q ∷ text) w after

-- c is escaped in front, after a tilde
abbrev pub IsEscape : (text : List ℕ) → ℕ → (after : List ℕ) → Type 0
IsEscape text c after = ((c ≡ tilde) × (text ≡ digit_zero ∷ after)) ⊎ ((c ≡ slash_sign) × (text ≡ digit_one ∷ after))

-- a part has no slash
abbrev pub UnescapesTo : (part : List ℕ) → String Global → Type 0
UnescapesTo part key = Lacks slash_sign part → escaped_key (string_bytes key) ≡ part

abbrev pub SpellsPartOf : (part : List ℕ) → Written → Type 0
SpellsPartOf part w = Lacks slash_sign part → SpellsPart w part

-- the value at this offset is an array, or it is none
abbrev pub BeginsArrayIf : (text : List ℕ) → ℕ → Bool → Type 0
BeginsArrayIf text start is = (before x : List ℕ) → chars text ≡ before ++ x → start ≡ bytes_in before → is ≡ starts_array x
