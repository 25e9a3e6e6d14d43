-- Strings that likely mean other characters than they were written for.
-- A promise rests on this.
use Rattle.std.specs.Prelude.{◌≡◌, ◌≢◌, ◌||◌, ◌&&◌, ◌==◌, not, ℕ, Bool, true, List, [], ◌∷◌, ◌++◌}
use Rattle.std.specs.Char.{is_ascii_alphabetic}
use Rattle.std.specs.Str.{chars}
use Rattle.json5_grammar.specs.Language.Characters.{backslash}
use Rattle.json5_grammar.specs.Language.Strings.{is_quote, stands_for_itself}
use Rattle.json5_settings.specs.declared.slips.Slip.{Slip}
use Rattle.json5_settings.specs.declared.slips.Slip.TheVariants as slip

-- `\` and `/`, which a backslash is usual before
abbrev pub is_slash : ℕ → Bool
is_slash c = (c == backslash) || (c == 0x2F)

-- a character that means the same without a backslash before it, and is no quote and no slash
abbrev pub is_idle : ℕ → Bool
is_idle c = stands_for_itself c && not (is_quote c || is_slash c)

-- no backslash but with a character after it
pub data AllPaired : List ℕ → Type 0 where
  none : AllPaired []
  other : {s : List ℕ} (c : ℕ) → AllPaired s → c ≢ backslash → AllPaired (s ++ c ∷ [])
  escape : {s : List ℕ} (c : ℕ) → AllPaired s → AllPaired (s ++ backslash ∷ c ∷ [])

-- an escape in it changes nothing
abbrev pub HasIdleEscape : List ℕ → Type 0
HasIdleEscape x = (before : List ℕ) × (c : ℕ) × (after : List ℕ) × (x ≡ before ++ backslash ∷ c ∷ after) × AllPaired before × (is_idle c ≡ true)

-- a quote, a drive, and one backslash
abbrev pub BeginsDrive : List ℕ → Type 0
BeginsDrive bytes = (q : ℕ) × (drive : ℕ) × (next : ℕ) × (after : List ℕ) × (bytes ≡ q ∷ drive ∷ 0x3A ∷ backslash ∷ next ∷ after)
    × (is_quote q ≡ true) × (is_ascii_alphabetic drive ≡ true) × (next ≢ backslash)

-- a value that is spelled in these bytes has this
abbrev pub HasSlip : List ℕ → Slip → Type 0
HasSlip bytes slip.RepeatedKey = ⊥
HasSlip bytes slip.IdleEscape = HasIdleEscape (chars bytes)
HasSlip bytes slip.DrivePath = BeginsDrive bytes
