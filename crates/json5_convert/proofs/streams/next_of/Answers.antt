use Rattle.std.proofs.Common.{ℕ, Option, sym, subst}
use Rattle.std.specs.Prelude.{IfSome, IsUtf8}
use Rattle.json5_types.specs.declared.value.Value.{Value}
use Rattle.json5_convert.specs.Sources.{Held, unread_of}
use Rattle.json5_convert.specs.Streams.{Decides, StaysFaulty, TakesKnown}
use Rattle.json5_convert.proofs.StreamsRefused.{refused_known}
use Rattle.json5_convert.proofs.StreamsTaken.{taken_known}
use Rattle.json5_convert.proofs.streams.next_of.Goals as goal

pub returns-in-Ok-Some-clause-taken : goal.returns-in-Ok-Some-clause-taken
returns-in-Ok-Some-clause-taken g c =
    let old = c.args.source.now in
    let now = c.loop.source in
    let taken : Option Value × ℕ = (c.in-Ok-Some.value, c.in-Ok-Some.count) in
    let read = subst (λ d. IfSome d (Decides c.text.result.now c.has_ended.result)) c.in-Ok-Some.field-0-is c.in-Ok-Some.ensures.taken in
    let here = subst (λ b. Decides c.text.result.now b taken) c.has_ended.ensures.said read in
    subst (λ (h : Held). TakesKnown (unread_of old) (unread_of h) c.in-Ok-Some.value) (sym c.give.ensures)
    (taken_known old.text now.text old.behind now.behind now.has_ended c.in-Ok-Some.count c.in-Ok-Some.value c.loop.invariant (subst IsUtf8 c.text.ensures c.text.utf8) c.has_ended.ensures.at_end (subst (λ t. Decides t now.has_ended taken) c.text.ensures here))

pub returns-in-Err-clause-faulty : goal.returns-in-Err-clause-faulty
returns-in-Err-clause-faulty g c =
    let old = c.args.source.now in
    let now = c.loop.source in
    let here = subst (λ b. StaysFaulty c.text.result.now b c.in-Err.fault) c.has_ended.ensures.said c.in-Err.ensures.faulty in
    refused_known old.text now.text old.behind now.behind now.has_ended c.in-Err.fault c.placed.result c.placed.ensures c.loop.invariant (subst IsUtf8 c.text.ensures c.text.utf8) c.has_ended.ensures.at_end
    (subst (λ t. StaysFaulty t now.has_ended c.in-Err.fault) c.text.ensures here)
