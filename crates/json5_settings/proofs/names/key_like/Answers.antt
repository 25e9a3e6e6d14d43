use Rattle.std.proofs.Common.{◌∙◌, true, false, sym, ap, arith}
use Rattle.std.specs.Str.{chars}
use Rattle.json5_types.proofs.LookedUp.{from_here}
use Rattle.json5_settings.proofs.WordsParted.{like_here, like_later, like_none, plain_test}
use Rattle.json5_settings.proofs.names.key_like.Goals as goal

pub returns-then-eq : goal.returns-then-eq
returns-then-eq c =
    let l = c.loop-name in
    let f = c.loop-name-item.result in
    let here = from_here c.args.members.now l.name-index f (omega (arith, c.loop-name-test.true)) c.loop-name-item.is in
    let test = plain_test f c.in_ok-plain.plain c.in_ok-wanted.wanted c.as_str.result.now c.as_str-in-loop-name.result.now c.deref.result.now c.args.word.now c.eq.result true c.as_str.utf8 c.as_str-in-loop-name.utf8
    c.as_str.ensures.value c.as_str-in-loop-name.ensures.value c.eq.ensures c.if-eq.true c.deref.ensures c.in_ok-plain.ensures c.in_ok-wanted.ensures in
    like_here (chars c.args.word.now) _ _ f (chars c.deref-then-eq.result.now) here (ap chars c.deref-then-eq.ensures) test ∙ sym l.invariant

pub loop-name-preserved : goal.loop-name-preserved
loop-name-preserved c =
    let l = c.loop-name in
    let f = c.loop-name-item.result in
    let here = from_here c.args.members.now l.name-index f (omega (arith, c.loop-name-test.true)) c.loop-name-item.is in
    let test = plain_test f c.in_ok-plain.plain c.in_ok-wanted.wanted c.as_str.result.now c.as_str-in-loop-name.result.now c.deref.result.now c.args.word.now c.eq.result false c.as_str.utf8 c.as_str-in-loop-name.utf8
    c.as_str.ensures.value c.as_str-in-loop-name.ensures.value c.eq.ensures c.if-eq.false c.deref.ensures c.in_ok-plain.ensures c.in_ok-wanted.ensures in
    l.invariant ∙ like_later (chars c.args.word.now) _ _ f here test

pub returns : goal.returns
returns c = like_none (chars c.args.word.now) c.args.members.now c.loop-name.name-index c.loop-name-test.false ∙ sym c.loop-name.invariant
