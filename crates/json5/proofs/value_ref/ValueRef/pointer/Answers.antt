use Rattle.std.proofs.Common.{◌≡◌, None, sym, arith}
use Rattle.std.proofs.lemmas.Str.Pattern.{strip_prefix_char}
use Rattle.json5_types.proofs.PointerParts.{no_slash}
use Rattle.json5.specs.ValueRefs.{ref_of}
use Rattle.json5.proofs.value_ref.ValueRef.pointer.Goals as goal

pub returns-in_err-strip_prefix : goal.returns-in_err-strip_prefix
returns-in_err-strip_prefix c =
    let path = c.args.path.now in
    let gone : c.from_residual.result ≡ None = grind arith in
    let other = rw c.in_err-strip_prefix.was at (strip_prefix_char 47 path c.strip_prefix.result c.strip_prefix.ensures.cases (omega arith)) in
    rw gone (sym (no_slash path (ref_of c.args.self.now) (grind arith) other))
