use Rattle.std.proofs.Common.{◌++◌, sym, subst}
use Rattle.json5_grammar.specs.Faults.{Fault}
use Rattle.json5_grammar.proofs.FaultParts.{fault_in, fault_part}
use Rattle.json5_grammar.proofs.FaultsShown.{fault_shows}
use Rattle.json5_grammar.proofs.FaultsRemain.{fault_follows}
use Rattle.json5_grammar.proofs.laws.faults.faulty_parts.Goals as goal

pub returns-clause-inside : goal.returns-clause-inside
returns-clause-inside c = λ limit x b. fault_in

pub returns-clause-part : goal.returns-clause-part
returns-clause-part c = λ limit x b. fault_part

pub returns-clause-place : goal.returns-clause-place
returns-clause-place c = λ limit x b k. fault_shows (subst (Fault limit x b.code b.place b.before b.part) k.shown k.fault)

pub returns-clause-follows : goal.returns-clause-follows
returns-clause-follows c =
    λ limit x z b k.
    subst (Fault limit ((b.before ++ b.part) ++ z) b.code b.place b.before b.part) (sym k.shown)
    (fault_follows z (subst (Fault limit x b.code b.place b.before b.part) k.shown k.fault))
