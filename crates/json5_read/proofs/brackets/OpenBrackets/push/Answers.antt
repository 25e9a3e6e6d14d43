use Rattle.std.proofs.Common.{◌∷◌, ◌++◌, [], length, ap, ◌∙◌, arith, length-append}
use Rattle.json5_read.proofs.OpenBrackets.{room_for_one, innermost_apart}
use Rattle.json5_read.proofs.brackets.OpenBrackets.push.Goals as goal

pub push-requires : goal.push-requires
push-requires c = (omega arith, (room_for_one c.self.inside.kinds.items c.self.inside.starts.items c.args.self.now c.self.view_is c.self.invariant c.requires).0)

pub push-requires-2 : goal.push-requires-2
push-requires-2 c = (omega arith, (room_for_one c.self.inside.kinds.items c.self.inside.starts.items c.args.self.now c.self.view_is c.self.invariant c.requires).1)

pub returns : goal.returns
returns c =
    let ks = c.self.inside.kinds.items in
    let ss = c.self.inside.starts.items in
    let more = c.push.ensures.items in
    let later = c.push-2.ensures.items in
    innermost_apart ks c.push.new.self.items ss c.push-2.new.self.items c.args.bracket more later
    (let same = c.self.invariant in omega (arith, same, ap length more, ap length later, length-append ks (c.args.bracket.kind ∷ []), length-append ss (c.args.bracket.start ∷ [])))
    ∙ ap (λ bs. bs ++ c.args.bracket ∷ []) c.self.view_is
