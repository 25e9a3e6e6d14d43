use Rattle.std.proofs.Common.{◌≡◌, ◌∷◌, ◌+◌, suc, drop, take, rules, arith, string_bytes}
use Rattle.json5_edit.proofs.Placed.{ok_then}
use Rattle.json5_edit_values.specs.Puts.{GetsText, first_in}
use Rattle.json5_edit_values.proofs.PathsPut.{along, along_refused}
use Rattle.json5_edit_values.proofs.PutsPlain.{plain_along}
use Rattle.json5_edit_values.proofs.putting.+add_along.Goals as goal

pub returns-in-Ok : goal.returns-in-Ok
returns-in-Ok t c =
    let a = c.args in
    let here : drop a.count a.path.now ≡ c.in-Some.step.now ∷ c.in-Some.inner.now = search rules in
    let gets : GetsText c.in-Some.step.now a.text.now (take a.count a.path.now) (first_in c.in-Some.inner.now a.value.now) c.as_str.result.now =
    rw (c.as_str.ensures.value) (rw (c.split_at.ensures.front, c.first_in-new.ensures) at c.in-Ok.ensures.made) in
    let one = rw (c.first_in-new.ensures) at c.in-Ok.ensures.plain in
    let next : a.count + 1 ≡ suc a.count = omega arith in
    record {
      made = along a.text.now a.value.now a.path.now a.count c.in-Some.step.now c.in-Some.inner.now here c.as_str.result.now gets c.add_along.result (rw next at c.add_along.ensures.made);
      plain = ok_then c.add_along.result (λ made k. plain_along a.names c.in-Some.inner.now a.text.now a.value.now (string_bytes c.in-Ok.made) (string_bytes made) one (rw c.as_str.ensures.value at k)) c.add_along.ensures.plain;
      refused = along_refused a.text.now a.value.now a.path.now a.count c.in-Some.step.now c.in-Some.inner.now here c.as_str.result.now gets c.add_along.result (rw next at c.add_along.ensures.refused);
    }
