use Rattle.std.proofs.Common.{◌≡◌, ℕ, List, sym, subst, Result, Ok, Err, Some}
use Rattle.std.specs.Prelude.{IfOk}
use Rattle.std.specs.Str.{chars}
use Rattle.json5_grammar.specs.Language.Documents.{Doc, max_depth}
use Rattle.json5_grammar.specs.Language.Trees.{Tree}
use Rattle.json5_types.specs.declared.error.Error.{Error}
use Rattle.json5_types.specs.declared.value.Value.{Value}
use Rattle.json5_types.specs.ValueMeanings.{Datum, value_of}
use Rattle.json5_read.specs.TreeMeanings.{datum_of}
use Rattle.json5_serde_write.specs.WrittenTexts.{IsWrittenWithin}
use Rattle.json5_serde.specs.Values.{IsOfText}
use Rattle.json5_serde.proofs.values.to_value.Goals as goal

same_datum : (x y : Datum) → Some x ≡ Some y → x ≡ y
same_datum x y e = cc

read_back : (bytes : List ℕ) (result : Result Value Error) → IsWrittenWithin max_depth bytes → IfOk result (λ v. (t : Tree) × Doc max_depth (chars bytes) t × (Some (datum_of t) ≡ Some (value_of v)))
    → IfOk result (λ v. IsOfText (value_of v))
read_back bytes (Ok v) written (t, document, is) = record { bytes = bytes; written = written; tree = t; document = document; same = same_datum (datum_of t) (value_of v) is }
read_back bytes (Err e) written sound = tt

pub returns : goal.returns
returns g c = read_back c.as_str.result.now c.from_str.result (subst (IsWrittenWithin max_depth) (sym c.as_str.ensures.value) c.in_ok-text.ensures) c.from_str.ensures.sound
