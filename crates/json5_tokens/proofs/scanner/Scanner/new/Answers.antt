use Rattle.std.proofs.Common.{length, ap, subst}
use Rattle.std.specs.Str.{IsUtf8}
use Rattle.std.proofs.lemmas.Str.{IsCharBoundary-start}
use Rattle.json5_tokens.proofs.scanner.Scanner.new.Goals as goal

pub invariant_of-result : goal.invariant_of-result
invariant_of-result g c =
    let is_text = subst IsUtf8 c.as_text-end.ensures c.as_text-end.utf8 in
    record { is_text = is_text; counted = ap length c.as_text-end.ensures; cut = IsCharBoundary-start _ is_text }
