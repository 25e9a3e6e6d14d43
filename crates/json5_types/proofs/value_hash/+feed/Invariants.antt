use Rattle.std.proofs.Common.{◌≡◌, drop}
use Rattle.std.specs.List.{fold}
use Rattle.json5_types.specs.ValueMeanings.{items_view, fields_view}
use Rattle.json5_types.specs.ValueHashes.{each_fed, members_fed, items_fed, fields_fed}
use Rattle.json5_types.proofs.ValuesHashed.{whole_fed}
use Rattle.json5_types.proofs.value_hash.+feed.Given as goal

-- feeding what is left feeds the whole
abbrev pub invariant-feed_fields-loop-key : goal.invariant-feed_fields-loop-key
invariant-feed_fields-loop-key g l = fold g.H.Hasher.write l.state (members_fed whole_fed (fields_view (drop l.key-index l.fields))) ≡ fold g.H.Hasher.write l.fn.state (fields_fed whole_fed (fields_view l.fn.fields))

abbrev pub invariant-feed_items-loop-item : goal.invariant-feed_items-loop-item
invariant-feed_items-loop-item g l = fold g.H.Hasher.write l.state (each_fed whole_fed (items_view (drop l.item-index l.items))) ≡ fold g.H.Hasher.write l.fn.state (items_fed whole_fed (items_view l.fn.items))
