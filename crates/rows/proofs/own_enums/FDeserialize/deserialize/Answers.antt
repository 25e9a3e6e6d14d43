use Rattle.std.proofs.Common.{[], ◌∷◌, ℕ, Result, ◌≢◌, rules, sym, ◌∙◌}
use Rattle.json5.specs.Lending.{enum_state_of}
use Rattle.json5.specs.State.{State}
use Rattle.json5.specs.Error.{Error}
use Rattle.json5.specs.Enums.{EnumAccessState}
use Rattle.json5.specs.Variants.{FinishesVariant, names, at_index}
use Rattle.json5.proofs.OwnEnums.{passed_place, finishes_same, enum_refused, enum_completes}
use Rattle.rows.specs.OwnEnums.{f_variants, f_content, f_a, f_b, f_c}
use Rattle.rows.specs.declared.own_enums.F.{F}
use Rattle.rows.proofs.own_enums.FDeserialize.deserialize.Goals as goal

pub returns-in_err-access-clause-complete : goal.returns-in_err-access-clause-complete
returns-in_err-access-clause-complete g c = enum_refused (names f_variants) (at_index f_variants) enum_state_of _ _ c.from_residual.ensures.1 c.in_err-access.ensures.names

pub returns-in-0-clause-complete : goal.returns-in-0-clause-complete
returns-in-0-clause-complete g c = enum_completes (names f_variants) (at_index f_variants) enum_state_of _ c.in_ok-access.ensures.names 0 (sym c.variant.ensures ∙ c.in-0.is) c.read_a.ensures

pub returns-in-1-clause-complete : goal.returns-in-1-clause-complete
returns-in-1-clause-complete g c = enum_completes (names f_variants) (at_index f_variants) enum_state_of _ c.in_ok-access.ensures.names 1 (sym c.variant.ensures ∙ c.in-1.is) c.read_b.ensures

last_place : {k : ℕ} {old : EnumAccessState} {new : State} {result : Result F Error} → k ≢ 0 → k ≢ 1 → FinishesVariant f_content f_c.convert old new result → FinishesVariant f_content (at_index f_variants k) old new result
last_place not_a not_b done = finishes_same (λ t. passed_place 0 f_a f_b (f_c ∷ []) not_a t ∙ passed_place 1 f_b f_c [] not_b t) done

pub returns-in_default-clause-complete : goal.returns-in_default-clause-complete
returns-in_default-clause-complete g c =
    enum_completes (names f_variants) (at_index f_variants) enum_state_of _ c.in_ok-access.ensures.names c.variant.result (sym c.variant.ensures) (last_place {k = c.variant.result} (search rules) (search rules) c.read_c.ensures)
