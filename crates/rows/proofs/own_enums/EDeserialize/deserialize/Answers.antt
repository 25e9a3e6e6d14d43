use Rattle.std.proofs.Common.{[], ◌∷◌, ◌≡◌, ℕ, ℤ, Result, ◌≢◌, refl, rules, sym, ◌∙◌, w32, to_z, of_z, SFits}
use Rattle.std.proofs.lemmas.Int.{to_z-of_z}
use Rattle.json5.specs.Lending.{state_of, map_state_of, enum_state_of}
use Rattle.json5.specs.State.{State}
use Rattle.json5.specs.Error.{Error}
use Rattle.json5.specs.Enums.{EnumAccessState}
use Rattle.json5.specs.Variants.{FinishesVariant, names, at_index}
use Rattle.json5.proofs.Structs.{still}
use Rattle.json5.proofs.OwnEnums.{passed_place, finishes_same, enum_refused, enum_read, enum_completes, with_first, with_last, tuple_refused, tuple_begun, first_on, last_on, element_refused, element_missing, tuple_open, tuple_read, struct_refused, fields_refused, fields_unprompted, field_missing, struct_open, struct_content}
use Rattle.rows.specs.OwnEnums.{e_variants, e_content, a_w, an_x, e_w, e_x, e_y, e_z, w_read}
use Rattle.rows.specs.declared.own_enums.E.{E}
use Rattle.rows.specs.declared.own_enums.E.TheVariants.{W, X}
use Rattle.rows.proofs.own_enums.EDeserialize.deserialize.Goals as goal

-- as it is stored
abbrev stored : ℤ → ℤ
stored z = to_z w32 (of_z w32 z)

both_stored : {C : Type 0} (make : ℤ × ℤ → C) (a b : ℤ) → SFits w32 a → SFits w32 b → make (a, b) ≡ make (stored a, stored b)
both_stored make a b f h = rw (to_z-of_z w32 a f, to_z-of_z w32 b h) refl

pub returns-in_err-access-clause-complete : goal.returns-in_err-access-clause-complete
returns-in_err-access-clause-complete g c = enum_refused (names e_variants) (at_index e_variants) enum_state_of _ _ c.from_residual.ensures.1 c.in_err-access.ensures.names

-- ---- W

pub returns-in_err-map-in-0-clause-complete : goal.returns-in_err-map-in-0-clause-complete
returns-in_err-map-in-0-clause-complete g c =
    enum_completes (names e_variants) (at_index e_variants) enum_state_of _ c.in_ok-access.ensures.names 0 (sym c.variant.ensures ∙ c.in-0.is)
    (struct_refused w_read map_state_of a_w e_content {new = (enum_state_of c.in_ok-access.access).reader} _ _ c.from_residual-in_err-map-in-0.ensures.1 c.in_err-map-in-0.ensures.opens refl)

pub returns-in_err-read_fields-in-0-clause-complete : goal.returns-in_err-read_fields-in-0-clause-complete
returns-in_err-read_fields-in-0-clause-complete g c =
    enum_completes (names e_variants) (at_index e_variants) enum_state_of _ c.in_ok-access.ensures.names 0 (sym c.variant.ensures ∙ c.in-0.is)
    (fields_refused w_read map_state_of c.in_ok-map-in-0.ensures.opens a_w e_content {new = (map_state_of c.in_ok-map-in-0.map).at.reader} _ _ c.from_residual-in_err-read_fields-in-0.ensures.1 c.in_err-read_fields-in-0.ensures.reads refl)

pub returns-in_err-a-in-0-clause-complete : goal.returns-in_err-a-in-0-clause-complete
returns-in_err-a-in-0-clause-complete g c =
    enum_completes (names e_variants) (at_index e_variants) enum_state_of _ c.in_ok-access.ensures.names 0 (sym c.variant.ensures ∙ c.in-0.is)
    (field_missing w_read map_state_of c.in_ok-map-in-0.ensures.opens a_w e_content {new = (map_state_of c.in_ok-map-in-0.map).at.reader} _ _ c.from_residual-in_err-a-in-0.ensures.1 c.in_ok-read_fields-in-0.ensures.reads
    (rw (c.in_err-a-in-0.ensures.value.missing c.in_ok-read_fields-in-0.ensures.reads.live).0 refl) (c.in_err-a-in-0.ensures.value.unprompted c.in_ok-read_fields-in-0.ensures.reads.live) refl)

pub returns-in_err-b-in-0-clause-complete : goal.returns-in_err-b-in-0-clause-complete
returns-in_err-b-in-0-clause-complete g c =
    enum_completes (names e_variants) (at_index e_variants) enum_state_of _ c.in_ok-access.ensures.names 0 (sym c.variant.ensures ∙ c.in-0.is)
    (field_missing w_read map_state_of c.in_ok-map-in-0.ensures.opens a_w e_content {new = (map_state_of c.in_ok-map-in-0.map).at.reader} _ _ c.from_residual-in_err-b-in-0.ensures.1 (still c.in_ok-a-in-0.ensures.value.same c.in_ok-read_fields-in-0.ensures.reads)
    (let live = (still c.in_ok-a-in-0.ensures.value.same c.in_ok-read_fields-in-0.ensures.reads).live in rw (c.in_ok-a-in-0.ensures.found, (c.in_err-b-in-0.ensures.value.missing live).0) refl) (c.in_err-b-in-0.ensures.value.unprompted (still c.in_ok-a-in-0.ensures.value.same c.in_ok-read_fields-in-0.ensures.reads).live) refl)

pub returns-in_err-end-in-0-clause-complete : goal.returns-in_err-end-in-0-clause-complete
returns-in_err-end-in-0-clause-complete g c =
    enum_completes (names e_variants) (at_index e_variants) enum_state_of _ c.in_ok-access.ensures.names 0 (sym c.variant.ensures ∙ c.in-0.is)
    (struct_open w_read map_state_of c.in_ok-map-in-0.ensures.opens a_w e_content _ _ c.from_residual-in_err-end-in-0.ensures.1 (still c.in_ok-b-in-0.ensures.value.same (still c.in_ok-a-in-0.ensures.value.same c.in_ok-read_fields-in-0.ensures.reads)) (c.in_ok-b-in-0.ensures.value.pending ∙ c.in_ok-a-in-0.ensures.value.pending ∙ c.in_ok-read_fields-in-0.ensures.pending)
    (c.in_ok-b-in-0.ensures.access.same_text ∙ c.in_ok-a-in-0.ensures.access.same_text ∙ c.in_ok-read_fields-in-0.ensures.access.same_text) (c.in_err-end-in-0.ensures.in_variant (enum_state_of c.in_ok-access.access).start (search rules)))

pub returns-in_ok-end-in-0-clause-sound : goal.returns-in_ok-end-in-0-clause-sound
returns-in_ok-end-in-0-clause-sound g c =
    enum_read (names e_variants) (at_index e_variants) enum_state_of _ c.in_ok-access.ensures.names 0 (sym c.variant.ensures ∙ c.in-0.is)
    (struct_content w_read map_state_of c.in_ok-map-in-0.ensures.opens a_w e_content {v = W (stored c.in_ok-a-in-0.a) (stored c.in_ok-b-in-0.b)} {d = (c.in_ok-a-in-0.a, c.in_ok-b-in-0.b)} (still c.in_ok-b-in-0.ensures.value.same (still c.in_ok-a-in-0.ensures.value.same c.in_ok-read_fields-in-0.ensures.reads))
    (c.in_ok-b-in-0.ensures.access.same_text ∙ c.in_ok-a-in-0.ensures.access.same_text ∙ c.in_ok-read_fields-in-0.ensures.access.same_text) (c.in_ok-end-in-0.ensures.in_variant (enum_state_of c.in_ok-access.access).start (search rules)) (search rules)
    (rw (c.in_ok-a-in-0.ensures.found, c.in_ok-b-in-0.ensures.found) refl) (both_stored a_w _ _ (search rules) (search rules)))

pub returns-in_err-read_fields-in-0-clause-unprompted : goal.returns-in_err-read_fields-in-0-clause-unprompted
returns-in_err-read_fields-in-0-clause-unprompted g c =
    fields_unprompted w_read map_state_of c.in_ok-map-in-0.ensures.opens a_w e_content c.args.de.now _ _ c.from_residual-in_err-read_fields-in-0.ensures.1 c.in_err-read_fields-in-0.ensures.reads

-- ---- X

pub returns-in_err-seq-in-1-clause-complete : goal.returns-in_err-seq-in-1-clause-complete
returns-in_err-seq-in-1-clause-complete g c =
    enum_completes (names e_variants) (at_index e_variants) enum_state_of _ c.in_ok-access.ensures.names 1 (sym c.variant.ensures ∙ c.in-1.is)
    (tuple_refused state_of an_x e_content {new = (enum_state_of c.in_ok-access.access).reader} _ _ c.from_residual-in_err-seq-in-1.ensures.1 c.in_err-seq-in-1.ensures.opens refl)

pub returns-in_err-first-in-1-clause-complete : goal.returns-in_err-first-in-1-clause-complete
returns-in_err-first-in-1-clause-complete g c =
    enum_completes (names e_variants) (at_index e_variants) enum_state_of _ c.in_ok-access.ensures.names 1 (sym c.variant.ensures ∙ c.in-1.is)
    (element_refused an_x e_content {new = (state_of c.in_ok-seq-in-1.seq).reader} (with_first _) _ _ c.from_residual-in_err-first-in-1.ensures.1 (tuple_begun state_of c.in_ok-seq-in-1.ensures.opens) c.in_err-first-in-1.ensures.refused.unprompted c.in_err-first-in-1.ensures.left refl)

pub returns-in_default-2-clause-complete : goal.returns-in_default-2-clause-complete
returns-in_default-2-clause-complete g c =
    enum_completes (names e_variants) (at_index e_variants) enum_state_of _ c.in_ok-access.ensures.names 1 (sym c.variant.ensures ∙ c.in-1.is)
    (element_missing an_x e_content {new = (state_of c.in_ok-seq-in-1.seq).reader} (with_first _) {e = c.too_short.result} (tuple_begun state_of c.in_ok-seq-in-1.ensures.opens) c.too_short.ensures (rw c.in_default-2.is at c.in_ok-first-in-1.ensures.left) refl)

pub returns-in_err-second-in-1-clause-complete : goal.returns-in_err-second-in-1-clause-complete
returns-in_err-second-in-1-clause-complete g c =
    let first = first_on (tuple_begun state_of c.in_ok-seq-in-1.ensures.opens) (rw c.in-Some.is at c.in_ok-first-in-1.ensures.read) (rw c.in-Some.is at c.in_ok-first-in-1.ensures.left) in
    enum_completes (names e_variants) (at_index e_variants) enum_state_of _ c.in_ok-access.ensures.names 1 (sym c.variant.ensures ∙ c.in-1.is)
    (element_refused an_x e_content {new = (state_of c.next_element.new.self).reader} with_last _ _ c.from_residual-in_err-second-in-1.ensures.1 first c.in_err-second-in-1.ensures.refused.unprompted c.in_err-second-in-1.ensures.left refl)

pub returns-in_default-3-clause-complete : goal.returns-in_default-3-clause-complete
returns-in_default-3-clause-complete g c =
    let first = first_on (tuple_begun state_of c.in_ok-seq-in-1.ensures.opens) (rw c.in-Some.is at c.in_ok-first-in-1.ensures.read) (rw c.in-Some.is at c.in_ok-first-in-1.ensures.left) in
    enum_completes (names e_variants) (at_index e_variants) enum_state_of _ c.in_ok-access.ensures.names 1 (sym c.variant.ensures ∙ c.in-1.is)
    (element_missing an_x e_content {new = (state_of c.next_element.new.self).reader} with_last {e = c.too_short-in_default-3.result} first c.too_short-in_default-3.ensures (rw c.in_default-3.is at c.in_ok-second-in-1.ensures.left) refl)

pub returns-in_err-end-in-1-clause-complete : goal.returns-in_err-end-in-1-clause-complete
returns-in_err-end-in-1-clause-complete g c =
    let first = first_on (tuple_begun state_of c.in_ok-seq-in-1.ensures.opens) (rw c.in-Some.is at c.in_ok-first-in-1.ensures.read) (rw c.in-Some.is at c.in_ok-first-in-1.ensures.left) in
    let second = last_on first (rw c.in-Some-2.is at c.in_ok-second-in-1.ensures.read) (rw c.in-Some-2.is at c.in_ok-second-in-1.ensures.left) in
    enum_completes (names e_variants) (at_index e_variants) enum_state_of _ c.in_ok-access.ensures.names 1 (sym c.variant.ensures ∙ c.in-1.is) (tuple_open an_x e_content _ _ c.from_residual-in_err-end-in-1.ensures.1 second (c.in_err-end-in-1.ensures.in_variant (enum_state_of c.in_ok-access.access).start (search rules)))

pub returns-in_ok-end-in-1-clause-sound : goal.returns-in_ok-end-in-1-clause-sound
returns-in_ok-end-in-1-clause-sound g c =
    let first = first_on (tuple_begun state_of c.in_ok-seq-in-1.ensures.opens) (rw c.in-Some.is at c.in_ok-first-in-1.ensures.read) (rw c.in-Some.is at c.in_ok-first-in-1.ensures.left) in
    let second = last_on first (rw c.in-Some-2.is at c.in_ok-second-in-1.ensures.read) (rw c.in-Some-2.is at c.in_ok-second-in-1.ensures.left) in
    enum_read (names e_variants) (at_index e_variants) enum_state_of _ c.in_ok-access.ensures.names 1 (sym c.variant.ensures ∙ c.in-1.is) (tuple_read an_x e_content {v = X (stored c.in-Some.first) (stored c.in-Some-2.second)} second (c.in_ok-end-in-1.ensures.in_variant (enum_state_of c.in_ok-access.access).start (search rules)) (search rules) (both_stored an_x _ _ (search rules) (search rules)))

-- ---- Y and Z

pub returns-in-2-clause-complete : goal.returns-in-2-clause-complete
returns-in-2-clause-complete g c = enum_completes (names e_variants) (at_index e_variants) enum_state_of _ c.in_ok-access.ensures.names 2 (sym c.variant.ensures ∙ c.in-2.is) c.read_y.ensures

last_place : {k : ℕ} {old : EnumAccessState} {new : State} {result : Result E Error} → k ≢ 0 → k ≢ 1 → k ≢ 2 → FinishesVariant e_content e_z.convert old new result → FinishesVariant e_content (at_index e_variants k) old new result
last_place not_w not_x not_y done = finishes_same (λ t. passed_place 0 e_w e_x (e_y ∷ e_z ∷ []) not_w t ∙ passed_place 1 e_x e_y (e_z ∷ []) not_x t ∙ passed_place 2 e_y e_z [] not_y t) done

pub returns-in_default-clause-complete : goal.returns-in_default-clause-complete
returns-in_default-clause-complete g c =
    enum_completes (names e_variants) (at_index e_variants) enum_state_of _ c.in_ok-access.ensures.names c.variant.result (sym c.variant.ensures) (last_place {k = c.variant.result} (search rules) (search rules) (search rules) c.read_z.ensures)
