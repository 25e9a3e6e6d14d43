use Rattle.std.proofs.Common.{Err, refl}
use Rattle.json5_read.specs.Offsets.{StartsAfter}
use Rattle.json5_de.specs.Convert.{every_text}
use Rattle.json5_de.specs.FieldKeys.{field_key_text}
use Rattle.json5_de.specs.KeyKinds.{RefusedAsKey, string_key}
use Rattle.json5_de.proofs.KeyPlaces.{begins_if_given}
use Rattle.json5_de.proofs.MemberRefusals.{begun_solid, entry_free, named_alike, no_key_at_entry, no_key_free, placed_free, read_key_placed, refused_alike}
use Rattle.json5_de.proofs.de.Deserializer.read_entry_field_key.Goals as goal

pub returns-then-not-at_key : goal.returns-then-not-at_key
returns-then-not-at_key g c = λ comma_due from at. record {
  key = no_key_at_entry field_key_text every_text (RefusedAsKey string_key) comma_due from c.fail_unexpected.new.self c.args.self.now c.fail_unexpected.result at (c.if-not-at_key.ensures.other refl) c.fail_unexpected.ensures;
  no_memory = entry_free comma_due from c.args.self.now (Err c.fail_unexpected.result) at (no_key_free c.args.self.now (Err c.fail_unexpected.result) (c.if-not-at_key.ensures.other refl));
  begins = tt;
}

pub returns-in-Ok : goal.returns-in-Ok
returns-in-Ok g c = λ comma_due from at. record {
  key = named_alike c.find_field_key-read.new.field_key (RefusedAsKey string_key) comma_due from c.find_field_key-read.new.self c.in-Ok.key c.is_some.result c.is_some.ensures
      (read_key_placed _ every_text (RefusedAsKey string_key) comma_due from c.args.self.now c.find_field_key-read.new.self (record { entry = at; begins = c.if-not-at_key.ensures.found refl }) c.find_field_key-read.result _ c.offset-offset.result c.find_field_key-read.ensures.reads c.offset-offset.ensures c.in-Ok.ensures);
  no_memory = λ u r live key. refl;
  begins = begins_if_given c.args.self.now c.find_field_key-read.new.self (StartsAfter c.find_field_key-read.new.self.input c.offset-offset.result) c.find_field_key-read.new.field_key c.find_field_key-read.result c.in-Ok.key c.is_some.result c.is_some.ensures c.offset-offset.ensures
      (begun_solid comma_due from.unread c.args.self.now.unread at.begun) c.find_field_key-read.ensures.reads.sound c.in-Ok.ensures;
}

pub returns-in-Err : goal.returns-in-Err
returns-in-Err g c = λ comma_due from at. record {
  key = refused_alike _ field_key_text every_text (RefusedAsKey string_key) comma_due from c.find_field_key-read.new.self _
      (read_key_placed _ every_text (RefusedAsKey string_key) comma_due from c.args.self.now c.find_field_key-read.new.self (record { entry = at; begins = c.if-not-at_key.ensures.found refl }) c.find_field_key-read.result _ c.offset-offset.result c.find_field_key-read.ensures.reads c.offset-offset.ensures c.in-Err.ensures);
  no_memory = entry_free comma_due from c.args.self.now (Err c.in-Err.e) at (λ solid. placed_free _ c.args.self.now c.find_field_key-read.result _ c.find_field_key-read.ensures.no_memory c.in-Err.ensures);
  begins = tt;
}
