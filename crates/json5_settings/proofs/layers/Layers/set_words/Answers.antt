use Rattle.std.proofs.Common.{◌∙◌, ap, subst}
use Rattle.json5_types.specs.ValueMeanings.{value_of}
use Rattle.json5_settings.specs.Keys.{key_texts}
use Rattle.json5_settings.specs.Members.{AddsMember}
use Rattle.json5_settings.proofs.layers.Layers.set_words.Goals as goal

pub returns : goal.returns
returns c =
    let keys = ap key_texts c.as_slice.ensures.value ∙ c.in_ok-keys.ensures.0 in
    (c.in_ok-keys.ensures.1, (value_of c.in_ok-merged.field-0, c.in_ok-merged.ensures.made, subst (λ ks. AddsMember c.args.name.now ks c.args.value.now c.args.self.now c.add_member.new.self) keys c.in_ok-add_member.ensures))
