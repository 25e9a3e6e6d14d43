use Rattle.std.proofs.Common.{arith, refl}
use Rattle.std.proofs.lemmas.Str.Pattern.{strip_prefix_char}
use Rattle.json5_edit.proofs.PathsRead.{inside_ok}
use Rattle.json5_edit.proofs.path_texts.dotted.read_inside.Goals as goal

pub returns-in-Some : goal.returns-in-Some
returns-in-Some c = inside_ok 34 c.args.inner.now c.in-Some.begun.now (rw c.in-Some.is at (strip_prefix_char 34 c.args.inner.now c.strip_prefix.result c.strip_prefix.ensures.cases (omega arith))) refl c.read_quoted.result c.read_quoted.ensures

pub returns-in-Some-strip_prefix : goal.returns-in-Some-strip_prefix
returns-in-Some-strip_prefix c = inside_ok 39 c.args.inner.now c.in-Some-strip_prefix.begun.now (rw c.in-Some-strip_prefix.is at (strip_prefix_char 39 c.args.inner.now c.strip_prefix-2.result c.strip_prefix-2.ensures.cases (omega arith))) refl c.read_quoted-in-Some-strip_prefix.result c.read_quoted-in-Some-strip_prefix.ensures
