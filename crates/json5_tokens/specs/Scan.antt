-- Cuts, fronts and skipped runs of the input, for private contracts of the scanner.
-- A promise rests on this.
use Rattle.std.specs.Prelude.{◌≡◌, ◌<◌, ◌≤◌, ℕ, Bool, List, [], ◌∷◌, ◌++◌, length, Option, Some, None, ◌⊎◌, ⊤}
use denote.Ref.{Bor}
use Rattle.std.specs.Str.{IsUtf8, IsCharBoundary, chars}
use Rattle.json5_grammar.specs.Language.Characters.{backslash, NotBegun, Each}
use Rattle.json5_grammar.specs.declared.position.Position.{Position}
use Rattle.json5_grammar.specs.Faults.Positions.{position_after}
use Rattle.json5_types.specs.declared.error.Error.{Error}
use Rattle.json5_tokens.specs.declared.refusal.Refusal.{Refusal}
use Rattle.json5_tokens.specs.declared.refusal.Refusal.TheVariants as refusal
use Rattle.json5_types.specs.Errors.{LacksMemory, code, kind_of, error_position}
use Rattle.json5_tokens.specs.Outcome.{bytes_in}
use Rattle.json5_tokens.specs.Cursor.{Cursor, Took, Says}

-- the offset is between characters of the input, which has so many bytes
pub record InText (text : List ℕ) (offset end : ℕ) : Type 0 where
  pub is_text : IsUtf8 text
  pub counted : end ≡ length text
  pub cut : IsCharBoundary text offset

-- a code, and neither a custom message nor that memory ran out
abbrev pub HasCode : Refusal → Type 0
HasCode (refusal.TokenError c left) = ⊤
HasCode (refusal.InvalidNumber left) = ⊥
HasCode (refusal.TooLarge left) = ⊥
HasCode (refusal.UnpairedSurrogate escape left) = ⊥
HasCode refusal.OutOfMemory = ⊥

-- a fault of the input, and not that memory ran out
abbrev pub HasFault : Refusal → Type 0
HasFault (refusal.TokenError c left) = ⊤
HasFault (refusal.InvalidNumber left) = ⊤
HasFault (refusal.TooLarge left) = ⊤
HasFault (refusal.UnpairedSurrogate escape left) = ⊤
HasFault refusal.OutOfMemory = ⊥

-- so many bytes are left somewhere in what is unread
pub record Leaves (s : Cursor) (left : ℕ) : Type 0 where
  pub passed : List ℕ
  pub rest : List ℕ
  pub split : s.unread ≡ passed ++ rest
  pub counted : left ≡ bytes_in rest

-- what was before them is taken
abbrev pub LeavesAt : Cursor → ℕ → Cursor → Type 0
LeavesAt old left new = (taken rest : List ℕ) → old.unread ≡ taken ++ rest → left ≡ bytes_in rest → Took old taken new × (new.unread ≡ rest)

-- the position with so many bytes left is within the unread part
abbrev pub InUnread : Cursor → Refusal → Type 0
InUnread s (refusal.TokenError c None) = ⊤
InUnread s (refusal.TokenError c (Some left)) = Leaves s left
InUnread s (refusal.InvalidNumber left) = Leaves s left
InUnread s (refusal.TooLarge left) = Leaves s left
InUnread s (refusal.UnpairedSurrogate escape left) = Leaves s left
InUnread s refusal.OutOfMemory = ⊤

-- the position where so many bytes are left
abbrev pub IsWhere : Cursor → ℕ → Position → Type 0
IsWhere s left p = (before rest : List ℕ) → s.input ≡ before ++ rest → left ≡ bytes_in rest → p ≡ position_after before

abbrev pub IsThere : Cursor → ℕ → Error → Type 0
IsThere s left e = (p : Position) × (error_position e ≡ Some p) × IsWhere s left p

-- the fault that is made of a refusal
abbrev pub MadeOf : Cursor → Refusal → Error → Type 0
MadeOf s (refusal.TokenError c None) e = (kind_of e ≡ code c) × (error_position e ≡ None)
MadeOf s (refusal.TokenError c (Some left)) e = (kind_of e ≡ code c) × IsThere s left e
MadeOf s (refusal.InvalidNumber left) e = LacksMemory e ⊎ (Says None e × IsThere s left e)
MadeOf s (refusal.TooLarge left) e = LacksMemory e ⊎ (Says None e × IsThere s left e)
MadeOf s (refusal.UnpairedSurrogate escape left) e = LacksMemory e ⊎ (Says None e × IsThere s left e)
MadeOf s refusal.OutOfMemory e = LacksMemory e

-- c is in front, and the rest follows it
pub record StartsWith (whole : List ℕ) (c : ℕ) (rest : List ℕ) : Type 0 where
  pub chars : chars whole ≡ c ∷ chars rest
  pub text : IsUtf8 rest
  pub shorter : length rest < length whole

-- the first character and what follows it, if there is one
abbrev pub IsFront : List ℕ → Option (ℕ × Bor (List ℕ)) → Type 0
IsFront whole None = chars whole ≡ []
IsFront whole (Some p) = StartsWith whole p.0 p.1.now

-- all in front that passes the test is passed over
pub record SkipsAll (p : ℕ → Bool) (whole rest : List ℕ) : Type 0 where
  pub passed : List ℕ
  pub split : chars whole ≡ passed ++ chars rest
  pub each : Each p passed
  pub stops : NotBegun p (chars rest)

-- only what passes the test is passed over
pub record SkipsSome (p : ℕ → Bool) (whole rest : List ℕ) : Type 0 where
  pub passed : List ℕ
  pub split : chars whole ≡ passed ++ chars rest
  pub each : Each p passed
  pub shorter : length rest ≤ length whole

-- what may be there, as a list
abbrev pub in_list : Option ℕ → List ℕ
in_list None = []
in_list (Some c) = c ∷ []

-- an escape: `after` is what follows its backslash
abbrev pub AtEscape : List ℕ → List ℕ → Type 0
AtEscape escape after = chars escape ≡ backslash ∷ chars after
