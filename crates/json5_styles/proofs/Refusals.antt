-- What is refused of a value that can't be written.
use Rattle.std.proofs.Common.{◌≡◌, Bool, true, false, ◌&&◌, List, ℕ, Option, Result, Ok, Err, refl}
use Rattle.std.specs.Prelude.{⊤}
use Rattle.std.specs.Io.KnownBytes.{Keeps}
use Rattle.json5_types.specs.declared.error.Error.{Error}
use Rattle.json5_types.specs.ValueLookups.{fits}
use Rattle.json5_types.specs.ValueMeanings.{Datum}
use Rattle.json5_styles.specs.JsonTexts.{is_json}
use Rattle.json5_styles.specs.WholeTexts.{RefusesText, StopsJson, WritesText, WritesJsonText}

pub both_true : (a b : Bool) → (a && b) ≡ true → (a ≡ true) × (b ≡ true)
both_true true true h = (refl, refl)
both_true true false h = absurd (cc)
both_true false b h = absurd (cc)

pub one_false : (a b : Bool) → (a && b) ≡ false → b ≡ true → a ≡ false
one_false true b h k = absurd (cc)
one_false false b h k = refl

pub refused : (deep json : Bool) (e : Error) → (deep && json) ≡ false → RefusesText deep false e → RefusesText deep json e
refused true true e h r = absurd (cc)
refused true false e h r = r
refused false json e h r = r

pub stopped : (deep json : Bool) (t : List ℕ) (old new : Option (List ℕ)) (e : Error) → (deep && json) ≡ false → RefusesText deep false e → Keeps old new → StopsJson deep json t old e new
stopped true true t old new e h r k = absurd (cc)
stopped true false t old new e h r k = (r, k)
stopped false true t old new e h r k = (r, k)
stopped false false t old new e h r k = (r, k)

pub written : (t : List ℕ) (x : Datum) (old new : Option (List ℕ)) (result : Result ⊤ Error) → fits x ≡ true → is_json x ≡ true → WritesText t x old result new → WritesJsonText t x old result new
written t x old new (Ok y) f j h = (h.0, j, h.1)
written t x old new (Err e) f j h = rw (f, j) (rw f at h)
