use Rattle.std.proofs.Common.{refl, sym, ◌∷◌, ◌++◌, true≢false}
use Rattle.cli_check.specs.Naming.{alone, absolute, within, slash}
use Rattle.cli_check.proofs.NamesLed.{beside_so}
use Rattle.cli_check.proofs.naming.beside.Goals as goal

pub returns-then-is_absolute : goal.returns-then-is_absolute
returns-then-is_absolute c = beside_so c.args.name.now c.args.path.now c.args.path.now c.copied.result (absolute (c.if-is_absolute.ensures.0 refl)) c.copied.ensures

pub returns-in-Some : goal.returns-in-Some
returns-in-Some c =
    beside_so c.args.name.now c.args.path.now (c.in-Some.folder.now ++ slash ∷ c.args.path.now) c.joined.result
    (within c.in-Some.folder.now (λ is. true≢false (sym (c.if-is_absolute.ensures.1 is))) c.in-Some.ensures) c.joined.ensures

pub returns-in-None : goal.returns-in-None
returns-in-None c = beside_so c.args.name.now c.args.path.now c.args.path.now c.copied-in-None.result (alone c.in-None.ensures) c.copied-in-None.ensures
