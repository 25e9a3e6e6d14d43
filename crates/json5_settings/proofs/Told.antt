-- The layer in which a fault is told.
use Rattle.std.proofs.Common.{◌≡◌, ◌∙◌, ◌++◌, ◌∷◌, [], ℕ, Bool, List, length, take, ap, sym, subst, inl, inr, arith, append_assoc, IsUtf8}
use Rattle.std.specs.Prelude.{Some, None, codes, slice_range, string_bytes}
use Rattle.std.specs.Str.{chars, IsCharBoundary}
use Rattle.std.specs.Str.Pattern.{GetsRange}
use Rattle.std.proofs.lemmas.List.{map-append}
use Rattle.std.proofs.lemmas.Str.{IsCharBoundary-start}
use Rattle.json5_grammar.specs.Faults.Positions.{position_after}
use Rattle.json5_grammar.specs.declared.position.Position.{Position}
use Rattle.json5_types.specs.declared.error.Error.{Error}
use Rattle.json5_types.specs.Errors.{error_position}
use Rattle.json5_walk.specs.declared.place.Place.{Place}
use Rattle.json5_edit.specs.Places.{Leads, LeadsNowhere}
use Rattle.json5_edit.specs.declared.paths.Step.{Step}
use Rattle.json5_edit.proofs.Placed.{starts_there}
use Rattle.json5_report.specs.declared.report.Report.{Report}
use Rattle.json5_report.specs.Paths.{IsPathAt}
use Rattle.json5_report.specs.Places.{IsOffsetOf, shown_position}
use Rattle.json5_report.specs.Reports.{IsReportOf, IsReportThere}
use Rattle.json5_settings.specs.Stacks.{Layer}
use Rattle.json5_settings.specs.Texts.{layer_of, layers_in}
use Rattle.json5_settings.specs.Told.{AllLack, HasPathOf, IsNearer, IsTold, IsToldAt, IsToldIn}
use Rattle.json5_settings.specs.declared.layers.Layer.{Layer as Kept}

-- ---- layers, the last first

pub one_less : (left earlier : List Kept) (layer : Kept) (all after : List Layer) → left ≡ earlier ++ (layer ∷ []) → all ≡ layers_in left ++ after → all ≡ layers_in earlier ++ (layer_of layer ∷ after)
one_less left earlier layer all after is e =
    e ∙ ap (λ z. layers_in z ++ after) is ∙ ap (λ z. z ++ after) (map-append layer_of earlier (layer ∷ [])) ∙ append_assoc (layers_in earlier) (layer_of layer ∷ []) after

pub none_left : (path : List Step) (left : List Kept) (all after : List Layer) → length left ≡ 0 → all ≡ layers_in left ++ after → AllLack path after → AllLack path all
none_left path [] all after none e lack = subst (AllLack path) (sym e) lack
none_left path (l ∷ ls) all after none e lack = absurd (omega (arith, none))

pub lacks_one : (path : List Step) (layer : Kept) (name text : List ℕ) (after : List Layer) → text ≡ string_bytes layer.text → LeadsNowhere text path → AllLack path after → AllLack path (layer_of layer ∷ after)
lacks_one path layer name text after is none lack = (subst (λ z. LeadsNowhere z path) is none, lack)

pub told_last : (path : List Step) (at_key : Bool) (left earlier : List Kept) (layer : Kept) (name text : List ℕ) (all after : List Layer) (report : Report) → left ≡ earlier ++ (layer ∷ []) → name ≡ string_bytes layer.name → text ≡ string_bytes layer.text
    → all ≡ layers_in left ++ after → AllLack path after → IsToldAt path at_key (name, text) report → IsToldIn path at_key all report
told_last path at_key left earlier layer name text all after report is named spelled e lack told =
    let here : IsToldAt path at_key (string_bytes layer.name, string_bytes layer.text) report =
    subst (λ z. IsToldAt path at_key (string_bytes layer.name, z) report) spelled (subst (λ z. IsToldAt path at_key (z, text) report) named told) in
    (layers_in earlier, layer_of layer, after, one_less left earlier layer all after is e, lack, here)

-- ---- a place

pub nowhere : (text : List ℕ) (path : List Step) → Leads text path None → LeadsNowhere text path
nowhere text path l = (l.tree, l.document, l.placed)

pub begins_text : (text : List ℕ) (path : List Step) (p : Place) → IsUtf8 text → Leads text path (Some p) → IsCharBoundary text p.start
begins_text text path p utf8 l = starts_there utf8 (l.placed.before, l.placed.old, l.placed.after, l.placed.cut)

pub front_of : (text front : List ℕ) (n : ℕ) → front ≡ slice_range text 0 n → front ≡ take n text
front_of text front n e = e ∙ ap (λ k. take k text) (omega arith)

pub no_front : {A : Type 0} (text : List ℕ) (n : ℕ) → IsUtf8 text → IsCharBoundary text n → GetsRange text 0 n None → A
no_front text n utf8 at none = absurd (none (omega arith) (IsCharBoundary-start text utf8) at)

-- the report of an error at this place
pub told_there : (name text : List ℕ) (error : Error) (p : Position) (n : ℕ) (report : Report) → error_position error ≡ Some p → p ≡ position_after (chars (take n text)) → IsReportOf name text error report
    → IsReportThere name text (position_after (chars (take n text))) report
told_there name text error p n report at is r = subst (λ z. IsReportThere name text z report) (ap (shown_position text) at ∙ is) r

-- ---- the report

pub told_so : (text : List ℕ) (error : Error) (layers : List Layer) (path : List Step) (at_key : Bool) (report told result : Report) → IsReportOf (codes "settings") text error told → IsToldIn path at_key layers report → IsNearer report told result
    → IsTold text error layers result
told_so text error layers path at_key report told result r in_layer (inl same) = inl (subst (IsReportOf (codes "settings") text error) (sym same) r)
told_so text error layers path at_key report told result r in_layer (inr (same, paths)) =
    let offset : IsOffsetOf text (shown_position text (error_position error)) told.offset = subst (λ p. IsOffsetOf text p told.offset) r.placed r.offset in
    let path_of : HasPathOf text error report = (told.offset, offset, subst (IsPathAt (chars text) told.offset) (sym paths) r.path) in
    inr (path, at_key, subst (IsToldIn path at_key layers) (sym same) in_layer, subst (HasPathOf text error) (sym same) path_of)
