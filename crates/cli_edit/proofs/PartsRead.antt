-- The value that a path leads to.
use Rattle.std.proofs.Common.{◌≡◌, ◌≤◌, ◌<◌, ◌+◌, ◌⊎◌, append-nil, append_assoc, get_or, length, take, inl, inr, ℕ, zero, suc, true, false, Bool, List, [], ◌∷◌, ◌++◌, Some, refl, ap, sym, ◌∙◌, subst, arith}
use Rattle.std.proofs.Math.Nat.{le-max_left, le-max_right}
use Rattle.std.specs.declared.alloc.Global.{Global}
use Rattle.std.specs.Prelude.{IfErr, IfOk, Result, Ok, Err, String, string_bytes}
use Rattle.std.specs.Str.{chars, IsUtf8, all_scalars}
use Rattle.std.proofs.lemmas.Str.{chars-encodes, scalars-chars}
use Rattle.json5_grammar.specs.Language.Characters.{line_feed}
use Rattle.json5_grammar.specs.Language.Documents.{Doc, max_depth}
use Rattle.json5_grammar.specs.Language.Trees.{Tree, null, boolean, number, text, array, object, Trees, Members, no_more, more, no_member, member, depth, depths, member_depths}
use Rattle.json5_grammar.specs.Language.Values.{Val}
use Rattle.json5_grammar.proofs.OneTree.{one_tree}
use Rattle.json5_grammar.proofs.ScalarsWritten.{alone}
use Rattle.json5_types.specs.declared.error.Error.{Error}
use Rattle.json5_types.specs.Errors.{LacksMemory}
use Rattle.json5_types.specs.ValueLookups.{fits}
use Rattle.json5_types.specs.ValueMeanings.{Datum, fields_view}
use Rattle.json5_types.specs.declared.value.Value.{Value}
use Rattle.json5_read.specs.TreeMeanings.{datum_of}
use Rattle.json5_styles.specs.JsonTexts.{is_json}
use Rattle.json5_styles.specs.WholeTexts.{RefusesText}
use Rattle.json5_edit.specs.Parts.{part, part_at, part_under}
use Rattle.json5_edit.specs.Places.{IsPartAt, IsValue}
use Rattle.json5_edit.specs.declared.paths.Step.{Step}
use Rattle.json5_edit.proofs.Placed.{scalars_left, scalars_right}
use Rattle.cli_edit.specs.declared.trouble.TextTrouble.{TextTrouble}
use Rattle.cli_edit.specs.declared.trouble.TextTrouble.TheVariants as trouble
use Rattle.json5_edit.specs.declared.faults.EditError.TheVariants as error
use Rattle.cli_edit.specs.declared.requests.View.{View}
use Rattle.cli_edit.specs.declared.requests.View.TheVariants as view
use Rattle.cli_edit.specs.Parts.{IsNoJson, IsShownAt, IsShownOf, KeyLines, RefusesShowing, RefusesShownOf, Shows, ShowsNone}

itself : (n : ℕ) → n ≤ n
itself n = omega arith

within : {a b c : ℕ} → a ≤ b → b ≤ c → a ≤ c
within p q = omega (arith, p, q)

inside : {a b : ℕ} → a ≤ b → a ≤ suc b
inside p = omega (arith, p)

-- ---- a part is no deeper than the whole

mutual
  pub part_depth : (is : List ℕ) (t u : Tree) → part is t ≡ Some u → depth u ≤ depth t
  part_depth [] t u e = let same : t ≡ u = cc in subst (λ z. z ≤ depth t) (ap depth same) (itself (depth t))
  part_depth (i ∷ is) null u e = absurd (cc)
  part_depth (i ∷ is) (boolean b) u e = absurd (cc)
  part_depth (i ∷ is) (number n) u e = absurd (cc)
  part_depth (i ∷ is) (text s b) u e = absurd (cc)
  part_depth (i ∷ is) (array ts) u e = inside (part_depth_at i is ts u e)
  part_depth (i ∷ is) (object ps) u e = inside (part_depth_under i is ps u e)

  part_depth_at : (i : ℕ) (is : List ℕ) (ts : Trees) (u : Tree) → part_at i is ts ≡ Some u → depth u ≤ depths ts
  part_depth_at i is no_more u e = absurd (cc)
  part_depth_at zero is (more t ts) u e = within (part_depth is t u e) (le-max_left (depth t) (depths ts))
  part_depth_at (suc i) is (more t ts) u e = within (part_depth_at i is ts u e) (le-max_right (depth t) (depths ts))

  part_depth_under : (i : ℕ) (is : List ℕ) (ps : Members) (u : Tree) → part_under i is ps ≡ Some u → depth u ≤ member_depths ps
  part_depth_under i is no_member u e = absurd (cc)
  part_depth_under zero is (member k b t ps) u e = within (part_depth is t u e) (le-max_left (depth t) (member_depths ps))
  part_depth_under (suc i) is (member k b t ps) u e = within (part_depth_under i is ps u e) (le-max_right (depth t) (member_depths ps))

-- ---- the value's text

-- the characters of what is spelled are those of the place
part_value : (bytes spelled : List ℕ) (steps : List Step) → IsUtf8 bytes → (p : IsPartAt bytes steps spelled) → Val (chars spelled) p.there.tree
part_value bytes spelled steps u p =
    let q = p.there in
    let scalars : all_scalars (q.before ++ (q.old ++ q.after)) ≡ true = ap all_scalars (sym q.cut.whole) ∙ scalars-chars bytes u in
    let old_scalars : all_scalars q.old ≡ true = scalars_left q.old q.after (scalars_right q.before (q.old ++ q.after) scalars) in
    let same : chars spelled ≡ q.old = ap chars p.same ∙ chars-encodes q.old old_scalars in
    subst (λ z. Val z q.tree) (sym same) q.value

pub part_fits : (bytes spelled : List ℕ) (steps : List Step) → IsUtf8 bytes → IsPartAt bytes steps spelled → IsValue max_depth (chars spelled)
part_fits bytes spelled steps u p =
    (p.there.tree, part_value bytes spelled steps u p, within (part_depth p.there.positions p.tree p.there.tree p.there.there) p.document.shallow)

-- ---- what is written of it

same_value : (x : List ℕ) (t u : Tree) → Doc max_depth x t → Val x u → t ≡ u
same_value x t u d v = one_tree max_depth (depth u) x t u d (alone (depth u) x u v (itself (depth u)))

pub value_alone : (x : List ℕ) → IsValue max_depth x → (t : Tree) × Doc max_depth x t
value_alone x (t, v, n) = (t, alone max_depth x t v n)

module _ (bytes spelled : List ℕ) (steps : List Step) (u : IsUtf8 bytes) (p : IsPartAt bytes steps spelled) where
  same_part : (t : Tree) → Doc max_depth (chars spelled) t → t ≡ p.there.tree
  same_part t d = same_value (chars spelled) t p.there.tree d (part_value bytes spelled steps u p)

  pub shown_ok : (w : View) (r : Result (String Global) TextTrouble) → IfOk r (λ made. IsShownOf w spelled (string_bytes made)) → IfOk r (λ made. IsShownAt w bytes steps (string_bytes made))
  shown_ok w (Ok made) (t, d, k) = (spelled, p, subst (λ z. Shows w spelled (datum_of z) (string_bytes made)) (same_part t d) k)
  shown_ok w (Err x) k = tt

  pub shown_err : (w : View) (r : Result (String Global) TextTrouble) → IfErr r (RefusesShownOf w spelled) → IfErr r (RefusesShowing w bytes steps)
  shown_err w (Ok made) k = tt
  shown_err w (Err x) (t, d, k) = inr (spelled, p, subst (λ z. ShowsNone w (datum_of z) x) (same_part t d) k)

-- of a value that was read
module _ (w : View) (spelled : List ℕ) (t : Tree) (d : Doc max_depth (chars spelled) t) (x : Datum) (is : x ≡ datum_of t) where
  pub told_ok : (r : Result (String Global) TextTrouble) → IfOk r (λ made. Shows w spelled x (string_bytes made)) → IfOk r (λ made. IsShownOf w spelled (string_bytes made))
  told_ok (Ok made) k = (t, d, subst (λ z. Shows w spelled z (string_bytes made)) is k)
  told_ok (Err e) k = tt

  pub told_err : (r : Result (String Global) TextTrouble) → IfErr r (ShowsNone w x) → IfErr r (RefusesShownOf w spelled)
  told_err (Ok made) k = tt
  told_err (Err e) k = (t, d, subst (λ z. ShowsNone w z e) is k)

-- of a value without reading it
memory : (w : View) (x : Datum) → ShowsNone w x (trouble.Edit error.NoMemory)
memory view.Spelled x = tt
memory view.Json x = tt
memory view.Content x = tt
memory view.Nothing x = tt
memory view.Keys x = tt
memory view.Count x = tt
memory view.Kind x = tt

pub memory_none : (w : View) (spelled : List ℕ) → IsValue max_depth (chars spelled) → RefusesShownOf w spelled (trouble.Edit error.NoMemory)
memory_none w spelled v = let (t, d) = value_alone (chars spelled) v in (t, d, memory w (datum_of t))

pub shown_nothing : (spelled made : List ℕ) → IsValue max_depth (chars spelled) → made ≡ [] → IsShownOf view.Nothing spelled made
shown_nothing spelled made v e = let (t, d) = value_alone (chars spelled) v in (t, d, e)

pub shown_spelled : (spelled : List ℕ) → IsValue max_depth (chars spelled) → (r : Result (String Global) TextTrouble) → IfOk r (λ made. string_bytes made ≡ spelled ++ line_feed ∷ []) → IfOk r (λ made. IsShownOf view.Spelled spelled (string_bytes made))
shown_spelled spelled v (Ok made) e = let (t, d) = value_alone (chars spelled) v in (t, d, e)
shown_spelled spelled v (Err x) e = tt

pub spelled_refused : (spelled : List ℕ) → IsValue max_depth (chars spelled) → (r : Result (String Global) TextTrouble) → IfErr r (λ e. e ≡ trouble.Edit error.NoMemory) → IfErr r (RefusesShownOf view.Spelled spelled)
spelled_refused spelled v (Ok made) e = tt
spelled_refused spelled v (Err x) e = subst (RefusesShownOf view.Spelled spelled) (sym e) (memory_none view.Spelled spelled v)

-- ---- JSON

-- what isn't refused for want of memory
pub not_memory : (f j : Bool) (e : Error) → RefusesText f j e → (LacksMemory e → ⊥) → (j ≡ false) ⊎ (f ≡ false)
not_memory true true e r n = absurd (n r)
not_memory true false e r n = inl refl
not_memory false j e r n = inr refl

pub json_none : (x : Datum) (e : Error) (r : TextTrouble) → RefusesText (fits x) (is_json x) e → IsNoJson e r → ShowsNone view.Json x r
json_none x e (trouble.Edit m) k n = subst (λ z. ShowsNone view.Json x (trouble.Edit z)) (sym n) tt
json_none x e (trouble.NoJson f) k n = not_memory (fits x) (is_json x) e k n
json_none x e (trouble.Failed f) k n = n
json_none x e (trouble.Unwritten u) k n = n
json_none x e (trouble.NoPatch f) k n = elim n [ ]
json_none x e (trouble.Operation f) k n = elim n [ ]
json_none x e (trouble.NoPath f) k n = elim n [ ]
json_none x e trouble.IntoItself k n = elim n [ ]

-- ---- the keys of an object

lines_grow : (i : ℕ) (fs : List (String Global × Value)) (d : String Global × Value) (made : List ℕ) → i < length fs → KeyLines (fields_view (take i fs)) made
    → KeyLines (fields_view (take (suc i) fs)) (made ++ (string_bytes ((get_or fs i d).0) ++ line_feed ∷ []))
lines_grow zero [] d made h k = absurd (omega (arith, h))
lines_grow zero (g ∷ fs) d made h k =
    let line = string_bytes (g.0) ++ line_feed ∷ [] in
    (string_bytes (g.0), [], refl, ap (λ z. z ++ line) k ∙ sym (append-nil line), refl)
lines_grow (suc i) [] d made h k = absurd (omega (arith, h))
lines_grow (suc i) (g ∷ fs) d made h (key, rest, c, is, k) =
    let line = string_bytes ((get_or fs i d).0) ++ line_feed ∷ [] in
    (key, rest ++ line, c, ap (λ z. z ++ line) is ∙ append_assoc (key ++ line_feed ∷ []) rest line, lines_grow i fs d rest (omega (arith, h)) k)

pub lines_more : (i : ℕ) (fs : List (String Global × Value)) (d f : String Global × Value) (made new : List ℕ) → i < length fs → KeyLines (fields_view (take i fs)) made
    → f ≡ get_or fs i d → new ≡ made ++ (string_bytes (f.0) ++ line_feed ∷ []) → KeyLines (fields_view (take (i + 1) fs)) new
lines_more i fs d f made new h k is e =
    let next : i + 1 ≡ suc i = omega arith in
    rw (next, e, is) (lines_grow i fs d made h k)
