use Rattle.std.proofs.Common.{arith, inl, inr, refl}
use Rattle.std.proofs.lemmas.Str.Pattern.{strip_prefix_char}
use Rattle.json5_edit.proofs.path_texts.pointers.unescaped_front.Goals as goal

pub returns-in-Some : goal.returns-in-Some
returns-in-Some c = inl (refl, rw c.in-Some.is at (strip_prefix_char 0x30 c.args.escape.now c.strip_prefix.result c.strip_prefix.ensures.cases (omega arith)))

pub returns-in-Some-strip_prefix : goal.returns-in-Some-strip_prefix
returns-in-Some-strip_prefix c = inr (refl, rw c.in-Some-strip_prefix.is at (strip_prefix_char 0x31 c.args.escape.now c.strip_prefix-2.result c.strip_prefix-2.ensures.cases (omega arith)))
