use Rattle.std.proofs.Common.{refl}
use Rattle.json5_lexemes.proofs.PlainPassed.{comma_passed, stays_none, stays_after}
use Rattle.json5_lexemes.proofs.plain.with_comma.Goals as goal

pub returns-in_default : goal.returns-in_default
returns-in_default c = stays_none _ c.in_default.is

pub returns-in-Some-past_byte : goal.returns-in-Some-past_byte
returns-in-Some-past_byte c =
    stays_after c.in-Some.field-0-0 c.in-Some.rest _ c.with_space.result c.in-Some.is
    (λ k. c.with_space.ensures k c.in-Some.field-0-0 c.in-Some.rest.now (comma_passed k c.in-Some.field-0-0 c.in-Some.rest.now c.in-Some-past_byte.after.now 44 c.in-Some-past_byte.ensures.chars refl))

pub returns-in-None : goal.returns-in-None
returns-in-None c = λ k l text p. p
