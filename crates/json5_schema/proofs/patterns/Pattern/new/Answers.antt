use Rattle.std.proofs.Common.{◌≡◌, ◌∙◌, false, sym, ap, string_bytes}
use Rattle.json5_schema.specs.Patterns.{in_rust}
use Rattle.json5_schema.proofs.PatternsRead.{means_as_read}
use Rattle.json5_schema.proofs.patterns.Pattern.new.Goals as goal

pub invariant_of-result : goal.invariant_of-result
invariant_of-result c =
    let items : string_bytes c.in-Ok.rust ≡ c.in_ok-in_rust.field-0.items = ap (λ v. v.items) c.in-Ok.ensures.ok in
    let source = c.in_ok-regex.ensures.source ∙ (c.as_str.ensures.value ∙ (items ∙ (c.in_ok-in_rust.ensures ∙ ap (in_rust false) (sym c.in_ok-from_str.ensures.ok)))) in
    record { meant = means_as_read c.in_ok-regex.regex (string_bytes c.in_ok-from_str.field-0) source c.in_ok-regex.ensures.config c.in_ok-regex.ensures.read }
