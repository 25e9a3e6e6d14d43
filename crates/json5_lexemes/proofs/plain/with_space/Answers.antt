use Rattle.std.proofs.Common.{refl, Some}
use Rattle.json5_lexemes.proofs.PlainPassed.{blank_passed, stays_none, stays_after}
use Rattle.json5_lexemes.proofs.plain.with_space.Goals as goal

pub returns-in_default : goal.returns-in_default
returns-in_default c = stays_none _ c.in_default.is

pub returns-in-Some-past_byte : goal.returns-in-Some-past_byte
returns-in-Some-past_byte c = stays_after c.in-Some.last c.in-Some.rest _ (Some (c.in-Some.last, c.in-Some-past_byte.after)) c.in-Some.is (λ k. blank_passed k c.in-Some.last c.in-Some.rest.now c.in-Some-past_byte.after.now 32 c.in-Some-past_byte.ensures.chars refl)

pub returns-in-None : goal.returns-in-None
returns-in-None c = λ k l text p. p
