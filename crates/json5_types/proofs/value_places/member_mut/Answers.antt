use Rattle.std.proofs.Common.{refl, sym}
use Rattle.std.specs.Str.{chars}
use Rattle.json5_types.proofs.MembersPlaced.{found_there, kept_there}
use Rattle.json5_types.proofs.value_places.member_mut.Goals as goal

pub returns : goal.returns
returns c =
    let key = chars c.args.key.now in
    let old = c.args.fields.now.items in
    let place = c.in_ok-place.place in
    let f = c.index_mut-field.result.now in
    let last = rw c.deref.ensures.value at c.in_ok-place.ensures in
    let is = c.index_mut-field.ensures.value in
    ((refl, (λ w. kept_there key f w old place last is), refl), sym (found_there key old place f last is))
