use Rattle.std.proofs.Common.{◌≡◌, Bool, Err, true, false, refl}
use Rattle.json5_de.specs.FieldKeys.{field_key_text}
use Rattle.std.specs.Prelude.{is_some}
use Rattle.json5_de.specs.Convert.{every_text}
use Rattle.json5_de.specs.KeyKinds.{RefusedAsKey, string_key}
use Rattle.json5_de.specs.Lending.{blocking_map, map_state_of}
use Rattle.json5_de.specs.ShortWays.{if_given}
use Rattle.json5_de.proofs.KeyPlaces.{kept_begins}
use Rattle.json5_de.proofs.ObjectCalls.{lent_at, key_given, key_refused}
use Rattle.json5_de.proofs.ObjectMembers.{key_free}
use Rattle.json5_de.proofs.map.MapAccess.next_field_key.Goals as goal

given_is_some : {A : Type 0} (value : A) (given : Bool) → given ≡ is_some (if_given value given)
given_is_some value true = refl
given_is_some value false = refl

pub returns-in-Ok : goal.returns-in-Ok
returns-in-Ok g c =
    let k = rw (c.set_failed.ensures, c.is_comma_due-comma_due.ensures) at c.in-Ok.ensures in
    let new = blocking_map (lent_at c.args.self.now c.read_field_key.new.self c.read_field_key.new.start) c.args.self.now.progress.failed in
    rw (c.with_key-self.ensures, c.set_failed-in-Ok.ensures) (record {
      key = key_given field_key_text every_text (RefusedAsKey string_key) c.args.self.now c.requires.no_key c.read_field_key.new.self c.read_field_key.new.start new c.in-Ok.given (if_given c.read_field_key.new.field_key c.in-Ok.given) refl (given_is_some c.read_field_key.new.field_key c.in-Ok.given) k.key.steady.same_text (kept_begins _ _ _ _ c.in-Ok.given k.begins) k.key.sound;
      no_memory = λ u t ps r left. refl;
    })

pub returns-in-Err : goal.returns-in-Err
returns-in-Err g c =
    let k = rw (c.set_failed.ensures, c.is_comma_due-comma_due.ensures) at c.in-Err.ensures in
    record {
      key = rw (c.refuse_access.ensures.reader, c.refuse_access.ensures.remembers) (key_refused field_key_text every_text (RefusedAsKey string_key) c.args.self.now c.requires.no_key c.read_field_key.new.self c.read_field_key.new.start (blocking_map (lent_at c.args.self.now c.read_field_key.new.self c.read_field_key.new.start) true) c.in-Err.e c.refuse_access.result refl c.refuse_access.ensures.placed k.key.cause k.key.steady k.key.complete k.key.closing);
      no_memory = key_free {V = Unit {0}} (map_state_of c.args.self.now) (Err c.refuse_access.result) c.requires.no_key k.no_memory;
    }
