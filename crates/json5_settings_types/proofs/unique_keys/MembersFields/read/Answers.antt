use Rattle.std.proofs.Common.{◌≡◌, ◌∙◌, Ok, false, subst, sym, true}
use Rattle.json5_de.specs.Lending.{map_state_of}
use Rattle.json5_de.specs.Plans.{TakesMember}
use Rattle.json5_settings_types.specs.Keys.{has_key, key_step, members_of}
use Rattle.json5_settings_types.proofs.KeysOnce.{found, grown, kept, not_read, not_read_refused, twice, twice_refused}
use Rattle.json5_settings_types.proofs.unique_keys.MembersFields.read.Goals as goal

pub returns-then-contains_key-clause-takes : goal.returns-then-contains_key-clause-takes
returns-then-contains_key-clause-takes g c =
    let s = members_of g.V.Deserialize.content c.args.self.now.values.entries in
    let has : has_key s c.args.name.now ≡ true = sym (found g.V.Deserialize.content c.args.name.now c.args.self.now.values.entries) ∙ sym c.contains_key.ensures ∙ c.if-contains_key.true in
    twice g.V.Deserialize.content g.V.Deserialize.convert g.V.Deserialize.refuses s c.args.name.now c.args.map.now has c.refuse_key.result c.refuse_key.new.self c.refuse_key.ensures.refused.failed c.refuse_key.ensures.refused.unprompted

pub returns-then-contains_key-clause-refused : goal.returns-then-contains_key-clause-refused
returns-then-contains_key-clause-refused g c =
    let s = members_of g.V.Deserialize.content c.args.self.now.values.entries in
    let has : has_key s c.args.name.now ≡ true = sym (found g.V.Deserialize.content c.args.name.now c.args.self.now.values.entries) ∙ sym c.contains_key.ensures ∙ c.if-contains_key.true in
    twice_refused g.V.Deserialize.content g.V.Deserialize.convert g.V.Deserialize.refuses s c.args.name.now c.args.map.now has c.refuse_key.result c.requires.named c.refuse_key.ensures.refused.own

pub returns-in-Err-clause-takes : goal.returns-in-Err-clause-takes
returns-in-Err-clause-takes g c =
    let s = members_of g.V.Deserialize.content c.args.self.now.values.entries in
    let new : has_key s c.args.name.now ≡ false = sym (found g.V.Deserialize.content c.args.name.now c.args.self.now.values.entries) ∙ sym c.contains_key.ensures ∙ c.if-contains_key.false in
    not_read g.V.Deserialize.content g.V.Deserialize.convert g.V.Deserialize.refuses s c.args.name.now c.args.map.now new c.next_value.new.self c.in-Err.e c.in-Err.ensures.reads

pub returns-in-Err-clause-refused : goal.returns-in-Err-clause-refused
returns-in-Err-clause-refused g c =
    let s = members_of g.V.Deserialize.content c.args.self.now.values.entries in
    let new : has_key s c.args.name.now ≡ false = sym (found g.V.Deserialize.content c.args.name.now c.args.self.now.values.entries) ∙ sym c.contains_key.ensures ∙ c.if-contains_key.false in
    not_read_refused g.V.Deserialize.content g.V.Deserialize.convert g.V.Deserialize.refuses s c.args.name.now c.args.map.now new c.next_value.new.self c.in-Err.e c.in-Err.ensures.reads

pub returns-in-Ok-add-clause-takes : goal.returns-in-Ok-add-clause-takes
returns-in-Ok-add-clause-takes g c =
    let es = c.args.self.now.values.entries in
    let s = members_of g.V.Deserialize.content es in
    let new : has_key s c.args.name.now ≡ false = sym (found g.V.Deserialize.content c.args.name.now es) ∙ sym c.contains_key.ensures ∙ c.if-contains_key.false in
    subst (λ n. TakesMember (key_step g.V.Deserialize.convert) s n c.args.name.now (map_state_of c.args.map.now) (map_state_of c.next_value.new.self) (Ok tt))
    (grown g.V.Deserialize.content es c.args.name.now c.in-Ok.value c.add.new.self.values.entries c.in-Ok-add.ensures.added)
    (kept g.V.Deserialize.content g.V.Deserialize.convert g.V.Deserialize.refuses s c.args.name.now c.args.map.now new c.next_value.new.self c.in-Ok.value c.in-Ok.ensures.reads)
