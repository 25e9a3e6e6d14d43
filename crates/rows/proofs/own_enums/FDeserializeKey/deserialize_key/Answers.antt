use Rattle.std.proofs.Common.{◌≡◌, ◌≢◌, ℕ, None, refl, rules}
use Rattle.json5.proofs.ObjectsRead.{one_reads_key}
use Rattle.json5.specs.Convert.{index_of}
use Rattle.json5.specs.Keys.{CompletesKey}
use Rattle.json5.specs.Lending.{reader_of_key}
use Rattle.json5.proofs.ElementLoops.{handed_on}
use Rattle.json5.proofs.Refinement.{parts, accepted_key_completes}
use Rattle.json5.proofs.OwnEnums.{other_place}
use Rattle.rows.specs.OwnEnums.{f_names, f_at, f_named}
use Rattle.rows.proofs.own_enums.FDeserializeKey.deserialize_key.Goals as goal

pub returns-in_err-place-clause-complete : goal.returns-in_err-place-clause-complete
returns-in_err-place-clause-complete g c =
    handed_on (λ r. CompletesKey f_named (reader_of_key c.args.key.now) r) _ _ c.from_residual.ensures.1 (accepted_key_completes f_at c.in_err-place.ensures.reads.complete)

no_variant : (k : ℕ) → k ≢ 0 → k ≢ 1 → f_at k ≡ None
no_variant k not_a not_b = rw (other_place 0 not_a, other_place 1 not_b) refl

pub returns-in_ok-custom-in_default-clause-complete : goal.returns-in_ok-custom-in_default-clause-complete
returns-in_ok-custom-in_default-clause-complete g c = record {
  memory = λ u escape_free r f live reads converts.
      let (k, is, named) = parts f_at (index_of f_names u escape_free) f converts in
      let (v, bare, took, read) = c.in_ok-place.ensures.reads.sound in
      let same = one_reads_key _ _ _ _ _ _ _ reads took.reads in
      let none = no_variant c.in_ok-place.place (search rules) (search rules) in
      absurd (cc (same.0, is, read, named, none));
}
