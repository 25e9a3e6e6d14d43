use Rattle.std.proofs.Common.{◌≡◌, ◌++◌}
use Rattle.json5_schema.specs.CanonicalForms.{members_form, read}
use Rattle.json5_schema.proofs.canonical.push_members.Given as goal

-- those that are left
abbrev pub invariant-loop-name : goal.invariant-loop-name
invariant-loop-name l = l.form.items ++ members_form (read l.name-iterator) ≡ l.fn.form.items ++ members_form (read l.forms.entries)
