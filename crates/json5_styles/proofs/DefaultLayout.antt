-- The default layout is what is written without one.
use Rattle.std.proofs.Common.{◌≡◌, ◌≤◌, ◌<◌, ◌+◌, ℕ, Bool, true, false, cond, nat_lt, List, [], ◌∷◌, ◌++◌, refl, sym, ap, ◌∙◌, arith, append_assoc}
use Rattle.std.proofs.lemmas.Bool.Decides.{nat_tests}
use Rattle.json5_grammar.specs.Language.Documents.{max_depth}
use Rattle.json5_types.specs.ValueLookups.{datum_depth, items_depth, fields_depth}
use Rattle.json5_types.specs.ValueMeanings.{Datum, null, boolean, number, text, array, object, Items, no_item, item, Fields, no_field, field}
use Rattle.json5_write.specs.Out.{Out, whole, too_deep, piece, stopped, ◌then◌, out, elements_out, fields_out, opened_by, written_text, line}
use Rattle.json5_write.specs.ValueTrees.{datum_tree, items_tree, fields_tree}
use Rattle.json5_write.proofs.WritableNumbers.{number_piece}
use Rattle.json5_styles.specs.declared.layout.Layout.TheVariants as layout
use Rattle.json5_styles.specs.declared.layout.Spelling.TheVariants as spelling
use Rattle.json5_styles.specs.LaidBack.{HasNumbers, ItemsHaveNumbers, FieldsHaveNumbers}
use Rattle.json5_styles.specs.Layouts.{style_of, laid_out}
use Rattle.json5_styles.specs.Styles.{Style, comma_if, laid, items_laid, fields_laid}

abbrev style : Style
style = style_of spelling.Json5 (layout.Spaces 2)

whole_piece : (o : Out) (t : List ℕ) → o.text ≡ t → o.stop ≡ whole → o ≡ piece t
whole_piece o t e f = ap (λ x. record { text = x; stop = o.stop }) e ∙ ap (λ x. record { text = t; stop = x }) f

opens : (limit d sign : ℕ) → d < limit → opened_by limit d sign ≡ piece (sign ∷ [])
opens limit d sign l = let h : nat_lt d limit ≡ true = grind (arith, nat_tests) in ap (λ b. cond b (piece (sign ∷ [])) (stopped too_deep)) h

item_texts : (c l v e r : List ℕ) → 44 ∷ e ≡ r → c ++ ((l ++ (v ++ 44 ∷ [])) ++ e) ≡ (c ++ l) ++ (v ++ r)
item_texts c l v e r same = rw (sym same) (simp append_assoc refl)

field_texts : (c l k v e r : List ℕ) → 44 ∷ e ≡ r → c ++ ((l ++ k) ++ ((58 ∷ 32 ∷ (v ++ 44 ∷ [])) ++ e)) ≡ (c ++ l) ++ (k ++ 58 ∷ 32 ∷ (v ++ r))
field_texts c l k v e r same = rw (sym same) (simp append_assoc refl)

item_joined : (c l v r : List ℕ) (o e : Out) → o ≡ piece v → piece (44 ∷ []) then e ≡ piece r → piece c then ((piece l then (o then piece (44 ∷ []))) then e) ≡ piece ((c ++ l) ++ (v ++ r))
item_joined c l v r o e is next =
    ap (λ x. piece c then ((piece l then (x then piece (44 ∷ []))) then e)) is
    ∙ whole_piece _ _ (item_texts c l v e.text r (ap (λ x. x.text) next)) (ap (λ x. x.stop) next)

field_joined : (c l k v r : List ℕ) (o e : Out) → o ≡ piece v → piece (44 ∷ []) then e ≡ piece r
    → piece c then ((piece l then piece k) then ((piece (58 ∷ 32 ∷ []) then (o then piece (44 ∷ []))) then e)) ≡ piece ((c ++ l) ++ (k ++ 58 ∷ 32 ∷ (v ++ r)))
field_joined c l k v r o e is next =
    ap (λ x. piece c then ((piece l then piece k) then ((piece (58 ∷ 32 ∷ []) then (x then piece (44 ∷ []))) then e))) is
    ∙ whole_piece _ _ (field_texts c l k v e.text r (ap (λ x. x.text) next)) (ap (λ x. x.stop) next)

mutual
  same : (limit d : ℕ) (x : Datum) → HasNumbers x → d + datum_depth x ≤ limit → out limit (datum_tree x) d ≡ piece (laid style d x)
  same limit d null h l = refl
  same limit d (boolean b) h l = refl
  same limit d (number n) h l = number_piece n h
  same limit d (text u) h l = refl
  same limit d (array xs) h l =
      ap (λ o. o then elements_out limit (items_tree xs) d false) (opens limit d 91 (omega (arith, l)))
      ∙ ap (λ o. piece (91 ∷ []) then o) (items_same limit d false xs h (omega (arith, l)))
  same limit d (object fs) h l =
      ap (λ o. o then fields_out limit (fields_tree fs) d false) (opens limit d 123 (omega (arith, l)))
      ∙ ap (λ o. piece (123 ∷ []) then o) (fields_same limit d false fs h (omega (arith, l)))

  items_same : (limit d : ℕ) (started : Bool) (xs : Items) → ItemsHaveNumbers xs → d + items_depth xs < limit → piece (comma_if started) then elements_out limit (items_tree xs) d started ≡ piece (items_laid style d started xs)
  items_same limit d true no_item h l = refl
  items_same limit d false no_item h l = refl
  items_same limit d started (item x xs) h l =
      item_joined (comma_if started) (line (d + 1)) (laid style (d + 1) x) (items_laid style d true xs) (out limit (datum_tree x) (d + 1)) (elements_out limit (items_tree xs) d true)
      (same limit (d + 1) x h.0 (omega (arith, l))) (items_same limit d true xs h.1 (omega (arith, l)))

  fields_same : (limit d : ℕ) (started : Bool) (fs : Fields) → FieldsHaveNumbers fs → d + fields_depth fs < limit → piece (comma_if started) then fields_out limit (fields_tree fs) d started ≡ piece (fields_laid style d started fs)
  fields_same limit d true no_field h l = refl
  fields_same limit d false no_field h l = refl
  fields_same limit d started (field u x fs) h l =
      field_joined (comma_if started) (line (d + 1)) (style.key u) (laid style (d + 1) x) (fields_laid style d true fs) (out limit (datum_tree x) (d + 1)) (fields_out limit (fields_tree fs) d true)
      (same limit (d + 1) x h.0 (omega (arith, l))) (fields_same limit d true fs h.1 (omega (arith, l)))

pub default_written : (x : Datum) → HasNumbers x → datum_depth x ≤ max_depth → written_text (datum_tree x) ≡ piece (laid_out (layout.Spaces 2) x)
default_written x h l = same max_depth 0 x h (omega (arith, l))
