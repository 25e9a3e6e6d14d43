use Rattle.std.proofs.Common.{ap, subst}
use Rattle.json5_settings.specs.Keys.{key_texts}
use Rattle.json5_settings.specs.Members.{AddsMember}
use Rattle.json5_settings.proofs.layers.Layers.set.Goals as goal

pub returns : goal.returns
returns c =
    let keys = ap key_texts c.as_slice.ensures.value in
    (key_texts c.in_ok-keys.keys.items, c.in_ok-keys.ensures, subst (λ ks. AddsMember c.args.name.now ks c.args.value.now c.args.self.now c.add_member.new.self) keys c.in_ok-add_member.ensures)
