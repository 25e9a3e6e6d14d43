use Rattle.std.proofs.Common.{sym, subst}
use Rattle.std.specs.Prelude.{◌↔◌}
use Rattle.std.specs.Str.{chars}
use Rattle.json5_lexemes.specs.PlainSteps.{TakesString}
use Rattle.json5_lexemes.proofs.PlainTakes.{leaves_by, string_closes, string_past_escape, string_no_escape, passed_run, shorter_by}
use Rattle.json5_lexemes.proofs.plain.skip_string.Goals as goal

pub loop-after-init : goal.loop-after-init
loop-after-init c = (c.skip_unescaped_within-rest.utf8, c.skip_unescaped_within-rest.ensures.run.stops, λ r. passed_run _ _ r c.skip_unescaped_within-rest.ensures.run)

pub returns-in_default-skip_escape : goal.returns-in_default-skip_escape
returns-in_default-skip_escape c = λ r t.
    string_no_escape (chars c.in-Some.after.now) r c.in_default-skip_escape.ensures
    (subst (λ z. TakesString z r) c.in-Some.ensures.chars ((c.loop-after.invariant.2 r).0 t))

pub loop-after-smaller : goal.loop-after-smaller
loop-after-smaller c = shorter_by _ _ _ _ 92 c.in-Some.ensures.chars c.in-Some-skip_escape.ensures c.skip_unescaped_within-rest-in-Some.ensures.run

pub loop-after-preserved : goal.loop-after-preserved
loop-after-preserved c = (
  c.skip_unescaped_within-rest-in-Some.utf8,
  c.skip_unescaped_within-rest-in-Some.ensures.run.stops,
  λ r.
      let a = c.loop-after.invariant.2 r in
      let b = subst (λ z. TakesString z r ↔ TakesString (chars c.in-Some-skip_escape.next.now) r) (sym c.in-Some.ensures.chars) (string_past_escape (chars c.in-Some.after.now) (chars c.in-Some-skip_escape.next.now) r c.in-Some-skip_escape.ensures) in
      let d = passed_run _ _ r c.skip_unescaped_within-rest-in-Some.ensures.run in
      (λ t. d.0 (b.0 (a.0 t)), λ t. a.1 (b.1 (d.1 t))),
)

pub returns : goal.returns
returns c = leaves_by TakesString TakesString _ c.loop-after.rest.now _ c.loop-after.invariant.2 (string_closes _ _ c.loop-after.invariant.1 c.in_default.ensures c.past_byte-2.ensures)
