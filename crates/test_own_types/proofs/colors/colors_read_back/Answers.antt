use Rattle.std.proofs.Common.{refl, codes}
use Rattle.json5.specs.ReadsBack.{KeyReadsBack}
use Rattle.json5.proofs.NamesBack.{name_back}
use Rattle.test_own_types.specs.Accepted.{color_named}
use Rattle.test_own_types.specs.Written.{color_key}
use Rattle.test_own_types.specs.declared.colors.Color.{Color}
use Rattle.test_own_types.specs.declared.colors.Color.TheVariants.{Red, Green, Blue}
use Rattle.test_own_types.proofs.colors.colors_read_back.Goals as goal

reads_back : (c : Color) → KeyReadsBack color_key color_named (λ c. c) c
reads_back Red = (_, refl, rw (name_back (codes "red") refl) refl)
reads_back Green = (_, refl, rw (name_back (codes "green") refl) refl)
reads_back Blue = (_, refl, rw (name_back (codes "blue") refl) refl)

pub returns : goal.returns
returns c = reads_back
