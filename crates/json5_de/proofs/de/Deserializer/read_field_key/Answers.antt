use Rattle.std.proofs.Common.{refl, sym}
use Rattle.json5_tokens.specs.declared.scanner.ShortStep.TheVariants as short
use Rattle.json5_read.specs.Brackets.{curly}
use Rattle.json5_de.specs.FieldKeys.{field_key_text}
use Rattle.json5_de.proofs.KeyPlaces.{begins_there}
use Rattle.json5_de.proofs.MemberRefusals.{begun_solid, name_given}
use Rattle.json5_de.proofs.ShortReads.{short_step}
use Rattle.json5_de.proofs.de.Deserializer.read_field_key.Goals as goal

pub put-requires : goal.put-requires
put-requires g c = let (u, took, stands) = c.in-Some.ensures in (u, rw c.input.ensures stands)

pub returns : goal.returns
returns g c =
    let (u, took, stands) = c.in-Some.ensures in
    let entry = short_step curly c.args.comma_due c.self.inside.scanner c.short_step.new.self c.self.inside.level c.self.inside.failed c.args.self.now short.Entry c.self.view_is c.if-self.false c.in-Entry.ensures in
    record {
      key = name_given c.args.comma_due c.args.self.now _ c.short_key.new.self c.short_key.new.self entry c.in-Some.ensures field_key_text _ (refl, rw c.input.ensures at c.put.ensures);
      no_memory = λ u r live key. refl;
      begins = begins_there c.offset.ensures (begun_solid c.args.comma_due c.args.self.now.unread c.short_step.new.self.unread entry.begun) took (sym ((rw c.input.ensures at c.put.ensures) u stands));
    }

pub returns-in_default : goal.returns-in_default
returns-in_default g c =
    let entry = short_step curly c.args.comma_due c.self.inside.scanner c.short_step.new.self c.self.inside.level c.self.inside.failed c.args.self.now short.Entry c.self.view_is c.if-self.false c.in-Entry.ensures in
    (rw c.in_default.ensures at c.read_entry_field_key.ensures) c.args.comma_due c.args.self.now entry
