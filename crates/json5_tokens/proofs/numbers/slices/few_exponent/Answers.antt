use Rattle.std.proofs.Common.{arith, refl, ap, sym, ◌∙◌, ◌++◌}
use Rattle.std.proofs.lemmas.Int.{ints, to_z-of_z}
use mir.Syntax.{w128}
use Rattle.json5_grammar.specs.Language.Numbers.{without_front_zeros}
use Rattle.json5_grammar.proofs.NormalForms.{front_twice}
use Rattle.json5_tokens.specs.NumberParts.{digits_of}
use Rattle.json5_tokens.proofs.DecimalLiteralValues.{after_or, found_is}
use Rattle.json5_tokens.proofs.DigitsGathered.{few_means}
use Rattle.json5_tokens.proofs.numbers.slices.few_exponent.Goals as goal

pub normalize-requires : goal.normalize-requires
normalize-requires c =
    let v = c.lowered_exponent.ensures.small in
    let s = to_z-of_z w128 c.lowered_exponent.result (let a = v.low in let b = v.high in omega (arith, ints)) in
    record {
      front = c.requires.gathered ∙ sym (front_twice (digits_of c.args.literal.now)) ∙ ap without_front_zeros (sym c.requires.gathered);
      small = rw s v;
    }

pub returns-clause-means : goal.returns-clause-means
returns-clause-means c =
    let r = c.lowered_exponent.result in
    let v = c.lowered_exponent.ensures in
    let s = to_z-of_z w128 r (let a = v.small.low in let b = v.small.high in omega (arith, ints)) in
    let f = found_is c.args.literal.now c.unwrap_or-after.result.now r _ (ap (λ x. x.now) c.unwrap_or-after.ensures ∙ after_or c.args.literal.now.after _ refl) v.value s (omega arith) (omega arith) in
    few_means c.args.literal.now c.unwrap_or-after.result.now c.args.digits.now c.normalize.new.self _ c.normalize.result f (c.requires.gathered ∙ ap (λ z. without_front_zeros (c.args.literal.now.before.now ++ z)) (sym f.after_is)) c.normalize.ensures
