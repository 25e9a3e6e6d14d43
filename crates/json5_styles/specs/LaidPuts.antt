-- What a call does that writes a value. Private clauses alone cite it.
-- Private.
use Rattle.std.specs.Prelude.{ℕ, Result, ⊤, OnOk}
use Rattle.json5_types.specs.ValueMeanings.{Datum}
use Rattle.json5_write.specs.Out.{piece}
use Rattle.json5_write.specs.ShortWrites.{Puts}
use Rattle.json5_write.specs.Writes.{SerializerState}
use Rattle.json5_write.specs.declared.refusal.Refused.{Refused}
use Rattle.json5_styles.specs.LaidBack.{HasNumbers}
use Rattle.json5_styles.specs.Layouts.{laid_in}
use Rattle.json5_styles.specs.declared.layout.Form.{Form}

-- the text of a value within so many brackets was written, or refused; what was written whole has numbers as a `Value` has them
pub record PutsLaid (form : Form) (depth : ℕ) (x : Datum) (old : SerializerState) (result : Result ⊤ Refused) (new : SerializerState) : Type 0 where
  pub text : Puts (piece (laid_in form depth x)) old result new
  pub numbers : OnOk result (HasNumbers x)
