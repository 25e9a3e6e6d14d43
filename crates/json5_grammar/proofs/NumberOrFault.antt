-- What begins as a number does has a number in front, or a fault of one.
use Rattle.std.proofs.Common.{ℕ, ◌||◌, List, [], refl, ◌⊎◌, inl, inr}
use Rattle.json5_grammar.specs.Language.Characters.{Begun}
use Rattle.json5_grammar.specs.Language.Numbers.{Number}
use Rattle.json5_grammar.specs.Faults.Tokens.{is_sign, begins_number}
use Rattle.json5_grammar.specs.Faults.Blames.{NumberBlame, HasNumber, IsBlamed}
use Rattle.json5_grammar.specs.Model.Reading.{Read, got, bad}
use Rattle.json5_grammar.specs.Model.ReadNumbers.{number}
use Rattle.json5_grammar.proofs.NumbersSound.{SoundNumber, sound}

abbrev pub Judged : List ℕ → Type 0
Judged x = HasNumber x ⊎ IsBlamed NumberBlame x

by_answer : (x : List ℕ) (a : Read Number) → SoundNumber x a → Judged x
by_answer x (got n r) (s, e, h, st) = inl (s, r, n, e, h, st)
by_answer x (bad e p) f = inr (record { code = e; place = f.place; before = []; part = f.part; shown = f.shown }, (refl, f.fault))

pub judged : (x : List ℕ) → Begun (λ c. is_sign c || begins_number c) x → Judged x
judged x h = by_answer x (number x) (sound x h)
