use Rattle.std.proofs.Common.{arith, subst, sym}
use Rattle.std.proofs.lemmas.Bool.{false≢true}
use Rattle.std.proofs.lemmas.Str.Pattern.{strip_prefix_char}
use Rattle.json5_edit.specs.PathTexts.{BeginsArrayIf}
use Rattle.json5_edit.proofs.ArraysLed.{begins_none, begins_so}
use Rattle.json5_edit.proofs.path_texts.parsed.begins_array.Goals as goal

pub returns-in-Some : goal.returns-in-Some
returns-in-Some c = subst (BeginsArrayIf c.args.text.now c.args.start) (sym c.is_some.ensures) (begins_so c.args.text.now c.in-Some.rest.now c.args.start c.strip_prefix.result c.utf8.text c.in-Some.ensures.back (strip_prefix_char 0x5B c.in-Some.rest.now c.strip_prefix.result c.strip_prefix.ensures.cases (omega arith)))

pub returns-in-None : goal.returns-in-None
returns-in-None c = begins_none c.args.text.now c.args.start c.utf8.text (λ at. false≢true (c.in-None.ensures.variant.1 at))
