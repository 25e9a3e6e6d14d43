-- Lists of texts that differ.
-- A promise rests on this.
use Rattle.std.specs.Prelude.{◌≡◌, ◌⊎◌, ◌<◌, ◌&&◌, ℕ, Bool, true, false, not, nat_lt, if◌then◌else◌, List, [], ◌∷◌, ◌++◌, length, map, Option, Some, None, Result, String, Vec, string_bytes}
use Rattle.std.specs.declared.alloc.Global.{Global}
use Rattle.json5_grammar.specs.declared.position.Position.{Position}
use Rattle.json5_grammar.specs.Language.Trees.{Tree}
use Rattle.json5_grammar.specs.Model.Collections.{array_of, contents}
use Rattle.json5_types.specs.declared.error.Error.{Error}
use Rattle.json5_types.specs.Errors.{IsCustomAt, LacksMemory}
use Rattle.json5_tokens.specs.Cursor.{IsPositionOf, IsOutOfMemory}
use Rattle.json5_de.specs.State.{State}
use Rattle.json5_de.specs.Convert.{text_of}
use Rattle.json5_de.specs.DeserializeLaw.{TookValue}
use Rattle.json5_de.specs.Faults.{RefusedByOrMemory}
use Rattle.json5_de.specs.ListFaults.{element, every, any_number, RefusesList}
use Rattle.json5_de.specs.Refinement.{refined, ReadsExactly, NotAccepted}
use Rattle.json5_de.specs.Spans.{RefusesSpanned}
use Rattle.json5_de.specs.TokenKinds.{RefusedAs, string_kind}
use Rattle.json5_de.specs.declared.spans.Spanned.{Spanned}
use Rattle.std.specs.Str.{bytes_eq}

-- it is one of the texts
abbrev pub is_one_of : List (List ℕ) → List ℕ → Bool
is_one_of [] u = false
is_one_of (n ∷ ns) u = if bytes_eq u n then true else is_one_of ns u

-- no two are equal
abbrev pub no_two_equal : List (List ℕ) → Bool
no_two_equal [] = true
no_two_equal (n ∷ ns) = if is_one_of ns n then false else no_two_equal ns

-- each has at most so many bytes
abbrev pub all_within : ℕ → List (List ℕ) → Bool
all_within longest [] = true
all_within longest (u ∷ us) = if nat_lt longest (length u) then false else all_within longest us

-- they differ, and they are neither too many nor too long
abbrev pub all_fit : ℕ → ℕ → List (List ℕ) → Bool
all_fit most longest us = if no_two_equal us then (if all_within longest us then not (nat_lt most (length us)) else false) else false

-- these, where they differ, are neither too few nor too many, and none is too long
abbrev pub if_distinct : ℕ → ℕ → ℕ → List (List ℕ) → Option (List (List ℕ))
if_distinct least most longest us = if all_fit most longest us then (if nat_lt (length us) least then None else Some us) else None

-- a list of strings
abbrev pub texts_of : Tree → Option (List (List ℕ))
texts_of = array_of (contents text_of)

-- a list of strings that differ, `least` to `most` of them, each of at most `longest` bytes
abbrev pub distinct_texts : ℕ → ℕ → ℕ → Tree → Option (List (List ℕ))
distinct_texts least most longest = refined texts_of (if_distinct least most longest)

-- u may stand after these: there is room, it isn't too long, and it is none of them
abbrev pub may_follow : ℕ → ℕ → List (List ℕ) → List ℕ → Bool
may_follow most longest before u = nat_lt (length before) most && (not (nat_lt longest (length u)) && not (is_one_of before u))

-- a string, and where it was read
abbrev pub Placed : Type 0
Placed = Spanned (String Global)

abbrev pub text_at : Placed → List ℕ
text_at p = string_bytes p.value

abbrev pub texts : List Placed → List (List ℕ)
texts ps = map text_at ps

-- the first that may not stand after those before it
pub record IsFirstUnfit (most longest : ℕ) (list : List Placed) (item : Placed) : Type 0 where
  pub before : List Placed
  pub after : List Placed
  pub split : list ≡ before ++ item ∷ after
  pub fit : all_fit most longest (texts before) ≡ true
  pub unfit : may_follow most longest (texts before) (text_at item) ≡ false

-- a custom fault at the offset, or memory ran out for it
abbrev pub IsOwnAt : List ℕ → ℕ → Error → Type 0
IsOwnAt input start e = LacksMemory e ⊎ ((p : Position) × IsPositionOf input start p × IsCustomAt (Some p) e)

-- a list of these strings was read
abbrev pub TookTexts : State → List (List ℕ) → State → Type 0
TookTexts old us new = (t : Tree) × TookValue old t new × (texts_of t ≡ Some us)

-- no list of strings is in front
abbrev pub RefusesTexts : State → Error → State → Type 0
RefusesTexts = RefusesSpanned (RefusesList (every (element text_of (RefusesSpanned (RefusedAs string_kind)))) any_number)

-- why a list of strings that differ is refused: none is in front; the first string that may not stand after those before it is refused where it was
-- read; there are too few, which is refused at the bracket; or no memory is left
pub data DistinctFault (least most longest : ℕ) (old : State) (e : Error) (new : State) : Type 0 where
  not_read : RefusesTexts old e new → DistinctFault least most longest old e new
  at_element : (list : List Placed) (item : Placed) → TookTexts old (texts list) new → IsFirstUnfit most longest list item → IsOwnAt new.input item.start e → DistinctFault least most longest old e new
  too_few : (us : List (List ℕ)) → TookTexts old us new → length us < least → RefusedByOrMemory (NotAccepted texts_of (if_distinct least most longest)) old e → DistinctFault least most longest old e new
  no_memory : IsOutOfMemory e → DistinctFault least most longest old e new

-- the strings of a list
abbrev pub all_texts : Vec (String Global) Global → List (List ℕ)
all_texts v = map string_bytes v.items

-- a list of strings that differ is read from the front
abbrev pub ReadsDistinct : ℕ → ℕ → ℕ → State → State → Result (Vec (String Global) Global) Error → Type 0
ReadsDistinct least most longest = ReadsExactly all_texts (distinct_texts least most longest) (λ t. false) (DistinctFault least most longest)
