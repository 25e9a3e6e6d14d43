-- The text of a value in a style is a document that means it.
use Rattle.std.proofs.Common.{◌≡◌, ◌≤◌, ℕ, suc, refl, sym, ap, ◌∙◌, subst}
use Rattle.json5_grammar.specs.Language.Trees.{Tree, Trees, Members, null, boolean, number, text, array, object, no_more, more, no_member, member, depth, depths, member_depths}
use Rattle.json5_grammar.proofs.ScalarsWritten.{alone}
use Rattle.json5_types.specs.ValueLookups.{datum_depth, items_depth, fields_depth}
use Rattle.json5_types.specs.ValueMeanings.{Datum}
use Rattle.json5_read.specs.TreeMeanings.{datum_of, items_of, fields_of}
use Rattle.json5_styles.specs.Styles.{Style, laid}
use Rattle.json5_styles.specs.LaidBack.{HasNumbers, ReadsAs}
use Rattle.json5_styles.proofs.ReadBack.{IsStyle, means}

mutual
  depth_same : (t : Tree) → datum_depth (datum_of t) ≡ depth t
  depth_same null = refl
  depth_same (boolean b) = refl
  depth_same (number n) = refl
  depth_same (text u escape_free) = refl
  depth_same (array ts) = ap suc (depths_same ts)
  depth_same (object ps) = ap suc (members_same ps)

  depths_same : (ts : Trees) → items_depth (items_of ts) ≡ depths ts
  depths_same no_more = refl
  depths_same (more t ts) = rw (depth_same t, depths_same ts) refl

  members_same : (ps : Members) → fields_depth (fields_of ps) ≡ member_depths ps
  members_same no_member = refl
  members_same (member u escape_free t ps) = rw (depth_same t, members_same ps) refl

pub document : (s : Style) → IsStyle s → (limit : ℕ) (x : Datum) → HasNumbers x → datum_depth x ≤ limit → ReadsAs limit (laid s 0 x) x
document s ok limit x h k =
    let m = means s ok 0 x h in
    let e : datum_depth x ≡ depth m.tree = ap datum_depth (sym m.same) ∙ depth_same m.tree in
    record { tree = m.tree; document = alone limit (laid s 0 x) m.tree m.value (subst (λ d. d ≤ limit) e k); same = m.same }
