use Rattle.json5_read.proofs.UnexpectedCharacters.{refused_end, refused_char}
use Rattle.json5_read.proofs.ModelSteps.{counted_before}
use Rattle.json5_read.proofs.faults.unexpected_here.Goals as goal

pub returns-in-Some : goal.returns-in-Some
returns-in-Some g c =
    refused_char c.args.scanner.now c.new_at.result c.peek.result _ c.position_of.result c.peek.ensures c.in-Some.is c.new_at.ensures.kind c.new_at.ensures.place
    (λ before split. c.position_of.ensures.inside before c.args.scanner.now.unread split (counted_before c.args.scanner.now before c.offset.result c.offset.ensures.counted split))

pub returns-in-None : goal.returns-in-None
returns-in-None g c = refused_end c.args.scanner.now c.new.result c.peek.result c.peek.ensures c.in-None.is c.new.ensures.kind c.new.ensures.place
