use Rattle.std.proofs.Common.{◌≡◌, take, drop, ap, subst, ◌∙◌, vec_items}
use Rattle.std.specs.Prelude.{string_bytes}
use Rattle.std.specs.Io.KnownBytes.{prepend_known}
use Rattle.json5_convert.specs.Sources.{Held, IsTextFront, stream_of}
use Rattle.json5_convert.proofs.SourcesKept.{text_copied, text_moved, stream_kept}
use Rattle.json5_convert.proofs.sources.Source.move_text.Goals as goal

pub invariant_of-self-in_err-self-inside : goal.invariant_of-self-in_err-self-inside
invariant_of-self-in_err-self-inside g c =
    let f = subst (λ b. IsTextFront b c.text_front-count.result.0) c.deref.ensures.value c.text_front-count.ensures in
    let is = c.from_utf8_unchecked-front.ensures ∙ ap (take c.text_front-count.result.0) c.deref-2.ensures.value in
    text_copied (string_bytes c.self.inside.text) (vec_items c.self.inside.rest) (string_bytes c.push_str.new.self) c.from_utf8_unchecked-front.result.now c.self.inside.given c.text_front-count.result.0
    (g.R.Read.remaining c.self.inside.reader) c.self.inside.has_ended f c.self.invariant is c.in_ok-push_str.ensures.bytes _ (ap vec_items c.in_err-self-inside.ensures.err)

pub invariant_of-self-2 : goal.invariant_of-self-2
invariant_of-self-2 g c =
    let f = subst (λ b. IsTextFront b c.text_front-count.result.0) c.deref.ensures.value c.text_front-count.ensures in
    let is = c.from_utf8_unchecked-front.ensures ∙ ap (take c.text_front-count.result.0) c.deref-2.ensures.value in
    text_moved (string_bytes c.self.inside.text) (vec_items c.self.inside.rest) (string_bytes c.push_str.new.self) c.from_utf8_unchecked-front.result.now c.self.inside.given c.text_front-count.result.0
    (g.R.Read.remaining c.self.inside.reader) c.self.inside.has_ended f c.self.invariant is c.in_ok-push_str.ensures.bytes _ c.in_ok-self-inside.ensures.tail

pub returns : goal.returns
returns g c =
    let f = subst (λ b. IsTextFront b c.text_front-count.result.0) c.deref.ensures.value c.text_front-count.ensures in
    let is = c.from_utf8_unchecked-front.ensures ∙ ap (take c.text_front-count.result.0) c.deref-2.ensures.value in
    let new = prepend_known (drop c.self.inside.given (string_bytes c.push_str.new.self)) (prepend_known (vec_items c.in_ok-self-inside.field-0) (g.R.Read.remaining c.self.inside.reader)) in
    subst (λ (h : Held). new ≡ stream_of h) c.self.view_is
    (stream_kept (string_bytes c.self.inside.text) (vec_items c.self.inside.rest) (string_bytes c.push_str.new.self) c.from_utf8_unchecked-front.result.now c.self.inside.given c.text_front-count.result.0
    (g.R.Read.remaining c.self.inside.reader) c.self.inside.has_ended f c.self.invariant is c.in_ok-push_str.ensures.bytes _ c.in_ok-self-inside.ensures.tail)
