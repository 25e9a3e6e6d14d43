use Rattle.std.proofs.Common.{ap, sym, ◌∙◌, string_bytes}
use Rattle.json5_serde_write.proofs.Pens.{none_open, text_whole}
use Rattle.json5_serde_write.proofs.pen.Pen.finish.Goals as goal

pub invariant_of-result : goal.invariant_of-result
invariant_of-result c =
    let k = none_open c.self.inside.inner c.self.inside.outer.items c.self.inside.outer.len c.if-is_some.ensures c.self.inside.outer.ok.0 c.if-not-is_empty.ensures c.if-value_due.false c.self.invariant in
    let bytes = string_bytes c.from_utf8_unchecked-text.result in
    text_whole c.into_inner.result bytes k (sym c.if-has_failed.ensures) c.into_inner.ensures (ap (λ v. v.items) c.from_utf8_unchecked-text.ensures.value ∙ c.into_bytes-bytes.ensures)
