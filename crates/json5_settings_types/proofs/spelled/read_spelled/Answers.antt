use Rattle.std.proofs.Common.{◌∙◌, Ok, ap, inl, inr, rules, sym}
use Rattle.json5_de.specs.Convert.{text_of}
use Rattle.json5_de.specs.DeserializeLaw.{Gives}
use Rattle.json5_de.specs.Refinement.{if_more, refined}
use Rattle.json5_de.proofs.Refinement.{accepted_completes, reads_content, refused_completes}
use Rattle.json5_settings_types.proofs.ReadTypes.{refused_own}
use Rattle.json5_settings_types.proofs.spelled.read_spelled.Goals as goal

pub returns-in-Err : goal.returns-in-Err
returns-in-Err g c = record {
  sound = tt;
  complete = accepted_completes g.T.Spelled.spells c.in-Err.ensures.reads.complete;
  no_memory = λ t r v live reads shallow converts free. absurd (cc);
  refused = inl c.in-Err.ensures.reads.refused;
  unprompted = search rules;
  same_text = search rules;
}

pub returns-in_default : goal.returns-in_default
returns-in_default g c =
    let none = ap g.T.Spelled.spells (sym c.as_str.ensures.value) ∙ sym c.in_default.ensures in
    record {
      sound = tt;
      complete = refused_completes text_of g.T.Spelled.spells c.in-Ok.ensures.reads.complete none;
      no_memory = λ t r v live reads shallow converts free. absurd (cc);
      refused = inr (refused_own text_of g.T.Spelled.spells c.args.de.now c.deserialize.new.de _ _ _ _ c.in-Ok.ensures.reads.sound c.in-Ok.ensures.spans none c.not_spelled.ensures);
      unprompted = λ live. c.not_spelled.ensures.unprompted;
      same_text = search rules;
    }

pub returns : goal.returns
returns g c =
    let (t, took, is) = c.in-Ok.ensures.reads.sound in
    let sound : Gives g.T.Spelled.meaning (refined text_of g.T.Spelled.spells) c.args.de.now c.deserialize.new.de c.in-Some.value = (t, took, ap (if_more g.T.Spelled.spells) is ∙ ap g.T.Spelled.spells (sym c.as_str.ensures.value) ∙ sym c.in-Some.ensures) in
    record {
      sound = sound;
      complete = reads_content g.T.Spelled.meaning (refined text_of g.T.Spelled.spells) c.args.de.now _ (Ok c.in-Some.value) sound tt;
      no_memory = λ t r v live reads shallow converts free. absurd (cc);
      refused = tt;
      unprompted = tt;
      same_text = search rules;
    }
