use Rattle.std.proofs.Common.{◌≡◌, ◌++◌, length, refl, ap, sym, ◌∙◌, subst}
use Rattle.std.specs.Str.{chars}
use Rattle.json5_grammar.specs.Language.Blanks.{Gap, Solid}
use Rattle.json5_grammar.specs.Model.Reading.{got}
use Rattle.json5_grammar.specs.Model.ReadBlanks.{skip, between}
use Rattle.json5_grammar.proofs.CommonLemmas.{eq_from}
use Rattle.json5_tokens.specs.TokenFaults.{FaultyBlanks}
use Rattle.json5_tokens.proofs.AsciiBlanks.{at_end, at_solid_text}
use Rattle.json5_tokens.proofs.ScanFaults.{refusal_in, coded}
use Rattle.json5_tokens.proofs.ScanTokens.{left_counted, leaves_rest, blanks_passed, blanks_faulty}
use Rattle.json5_tokens.proofs.scanner.Scanner.skip_blank.Goals.{then-is_empty-via-then-is_empty, then-is_empty-via-else-is_empty+then-begins_solid}
use Rattle.json5_tokens.proofs.scanner.Scanner.skip_blank.Goals as goal

pub returns-then-is_empty : goal.returns-then-is_empty
returns-then-is_empty g c =
    let r = c.rest-rest.result.now in
    let still : skip between (chars r) ≡ got tt (chars r) = elim c.then-is_empty.branch [
      | then-is_empty-via-then-is_empty w ↦ at_end r (eq_from (length r) 0 (sym c.is_empty.ensures ∙ w.if-is_empty.true))
      | then-is_empty-via-else-is_empty+then-begins_solid w ↦ at_solid_text r c.rest-rest.utf8 (w.begins_solid.ensures w.if-begins_solid.true)
    ] in
    let k = blanks_passed _ _ _ c.rest-rest.ensures still in
    record { passed = (k.gap, record { split = k.split ∙ ap (λ z. k.gap ++ z) c.rest-rest.ensures; same = refl }, subst (Gap k.gap) c.rest-rest.ensures k.blank, subst Solid c.rest-rest.ensures k.solid); refused = tt; kept = tt }

pub fault-requires : goal.fault-requires
fault-requires g c = refusal_in FaultyBlanks c.args.self.now c.in-Err.refusal (skip between (chars c.rest-rest.result.now)) (blanks_faulty _ _ c.rest-rest.ensures) c.in-Err.ensures.refused

pub returns-in-Err : goal.returns-in-Err
returns-in-Err g c = record {
  passed = tt;
  refused = coded FaultyBlanks c.args.self.now c.fault.result c.in-Err.refusal (skip between (chars c.rest-rest.result.now)) (blanks_faulty _ _ c.rest-rest.ensures) c.in-Err.ensures.refused c.in-Err.ensures.known c.fault.ensures;
  kept = refl;
}

pub set_remaining-requires : goal.set_remaining-requires
set_remaining-requires g c =
    let k = blanks_passed _ _ _ c.rest-rest.ensures c.in-Ok.ensures.read in
    leaves_rest k.gap c.in-Ok.rest.now k.split c.in-Ok.ensures.text

pub returns : goal.returns
returns g c =
    let k = blanks_passed _ _ _ c.rest-rest.ensures c.in-Ok.ensures.read in
    let l = c.set_remaining.ensures k.gap (chars c.in-Ok.rest.now) k.split (left_counted c.in-Ok.rest.now c.in-Ok.ensures.text) in
    record { passed = (k.gap, l.0, subst (Gap k.gap) (sym l.1) k.blank, subst Solid (sym l.1) k.solid); refused = tt; kept = tt }
