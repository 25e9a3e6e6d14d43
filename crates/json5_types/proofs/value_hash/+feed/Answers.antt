use Rattle.std.proofs.Common.{◌≡◌, ◌∙◌, length, refl, sym, ap, arith, string_bytes}
use Rattle.std.specs.Hash as fed
use Rattle.std.specs.Hash.{fed_then, fed_along}
use Rattle.std.specs.Str.{chars, encode_utf8_all}
use Rattle.std.proofs.lemmas.Str.{encodes-chars}
use Rattle.json5_types.specs.ValueMeanings.{fields_view}
use Rattle.json5_types.specs.ValueHashes.{fields_fed}
use Rattle.json5_types.proofs.ValuesCompared.{view-String, view-Object}
use Rattle.json5_types.proofs.ValuesHashed.{whole_fed, items_begun, fields_begun, member_fed}
use Rattle.json5_types.proofs.value_hash.+feed.Goals as goal

pub feed-returns-in-String : goal.feed-returns-in-String
feed-returns-in-String g t c =
    let bytes = c.as_str.result.now in
    let back : encode_utf8_all (chars (string_bytes c.in-String.text)) ≡ bytes = ap (λ b. encode_utf8_all (chars b)) (sym c.as_str.ensures.value) ∙ encodes-chars bytes c.as_str.utf8 in
    rw (c.in-String.is, view-String c.in-String.text, back) (fed_then g.H.Hasher.write c.args.state.now c.hash-in-String.new.state c.hash-in-String-2.new.state (fed.u8 4) (fed.str bytes) c.hash-in-String.ensures c.hash-in-String-2.ensures)

pub feed-returns-in-Object : goal.feed-returns-in-Object
feed-returns-in-Object g t c =
    let fields = c.in-Object.fields.items in
    rw (c.in-Object.is, view-Object c.in-Object.fields)
    (fed_then g.H.Hasher.write c.args.state.now c.hash-in-Object.new.state c.feed_fields.new.state (fed.u8 6) (fields_fed whole_fed (fields_view fields)) c.hash-in-Object.ensures (rw c.deref-in-Object.ensures.value at c.feed_fields.ensures))

pub feed_items-loop-item-init : goal.feed_items-loop-item-init
feed_items-loop-item-init g t c = items_begun g.H.Hasher.write c.args.state.now c.hash.new.state c.args.items.now (length c.args.items.now) refl c.hash.ensures

pub feed_fields-loop-key-init : goal.feed_fields-loop-key-init
feed_fields-loop-key-init g t c = fields_begun g.H.Hasher.write c.args.state.now c.hash.new.state c.args.fields.now (length c.args.fields.now) refl c.hash.ensures

pub feed_fields-loop-key-preserved : goal.feed_fields-loop-key-preserved
feed_fields-loop-key-preserved g t c =
    let l = c.loop-key in
    let f = c.loop-key-item.result in
    let bytes = c.as_str.result.now in
    let back : encode_utf8_all (chars (string_bytes f.0)) ≡ bytes = ap (λ b. encode_utf8_all (chars b)) (sym c.as_str.ensures.value) ∙ encodes-chars bytes c.as_str.utf8 in
    let named = fed_along g.H.Hasher.write l.state c.hash-in-loop-key.new.state (ap fed.str (sym back)) c.hash-in-loop-key.ensures in
    member_fed g.H.Hasher.write l.state c.hash-in-loop-key.new.state c.feed.new.state c.args.fields.now l.key-index f (omega (arith, c.loop-key-test.true)) c.loop-key-item.is named c.feed.ensures ∙ l.invariant
