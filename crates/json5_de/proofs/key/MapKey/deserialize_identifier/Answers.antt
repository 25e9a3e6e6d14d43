use Rattle.std.proofs.Common.{Some, ap, sym, true, refl}
use Rattle.json5_types.specs.Cows.{cow_bytes, is_borrowed}
use Rattle.json5_de.specs.Convert.{every_cow}
use Rattle.json5_de.specs.Lending.{reader_of_key}
use Rattle.json5_de.proofs.FoundKeys.{key_ok}
use Rattle.json5_de.proofs.key.MapKey.deserialize_identifier.Goals as goal

pub returns-in-Some : goal.returns-in-Some
returns-in-Some g c =
    let (u, took, bytes) = c.in-Some.ensures in
    record { reads = key_ok (λ t. (cow_bytes t, is_borrowed t)) every_cow _ (reader_of_key c.args.self.now) c.short_key_str.new.self _ (u, true, took, ap (λ z. Some (z, true)) (sym bytes)); same_reference = refl }
