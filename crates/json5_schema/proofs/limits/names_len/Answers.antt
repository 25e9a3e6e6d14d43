use Rattle.std.proofs.Common.{◌≡◌, ◌∙◌, ap, arith, length, sym}
use Rattle.json5_types.specs.ValueKinds.{fields_len}
use Rattle.json5_schema.proofs.Latest.{members_counted}
use Rattle.json5_schema.proofs.limits.names_len.Goals as goal

pub returns : goal.returns
returns c =
    let members = c.in_ok-members.members in
    let same = members.ok in
    let counted : c.len.result ≡ length members.items = omega (arith, c.len.ensures, same) in
    counted ∙ sym (members_counted members.items) ∙ ap fields_len c.in_ok-members.ensures
