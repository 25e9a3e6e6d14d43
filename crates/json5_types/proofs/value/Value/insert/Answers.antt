use Rattle.std.proofs.Common.{string_bytes}
use Rattle.std.specs.Str.{chars}
use Rattle.json5_types.specs.ValueMeanings.{value_of, fields_view}
use Rattle.json5_types.proofs.ValuesChanged.{object_from, member_put}
use Rattle.json5_types.proofs.ValuesCompared.{view-Object}
use Rattle.json5_types.proofs.value.Value.insert.Goals as goal

pub returns-in-Some-clause-change : goal.returns-in-Some-clause-change
returns-in-Some-clause-change c =
    let fields = c.in-Some.fields.now.items in
    let is = object_from (value_of c.args.self.now) (fields_view fields) c.in-Some.ensures.value in
    member_put (chars (string_bytes c.args.key)) (value_of c.args.value) (value_of c.args.self.now) _ fields c.put_member.new.fields.items c.put_member.result is (view-Object c.put_member.new.fields) c.put_member.ensures
