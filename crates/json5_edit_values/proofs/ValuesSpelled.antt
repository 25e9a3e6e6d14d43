-- Texts of one value.
use Rattle.std.proofs.Common.{◌≡◌, ◌≤◌, ℕ, suc, Bool, true, false, List, refl, sym, ap, ◌∙◌, subst, arith}
use Rattle.std.specs.Bool.{OnTrue}
use Rattle.std.specs.Prelude.{IfErr, Result, Ok, Err}
use Rattle.std.specs.Str.{chars}
use Rattle.json5_grammar.specs.Language.Documents.{Doc, max_depth}
use Rattle.json5_grammar.specs.Language.Trees.{Tree, Trees, Members, null, boolean, number, text, array, object, no_more, more, no_member, member, depth, depths, member_depths}
use Rattle.json5_grammar.specs.Language.Values.{Val}
use Rattle.json5_grammar.proofs.OneTree.{one_tree}
use Rattle.json5_grammar.proofs.ScalarsWritten.{alone}
use Rattle.json5_lexemes.specs.Lexemes.{HaveSameLexemes}
use Rattle.json5_lexemes.proofs.SameTrees.{same_tree}
use Rattle.json5_types.specs.ValueMeanings.{Datum}
use Rattle.json5_read.specs.TreeMeanings.{datum_of}
use Rattle.json5_styles.specs.LaidBack.{ReadsAs}
use Rattle.json5_format.proofs.Formats.{written_tree}
use Rattle.json5_write.specs.EscapeFreeMarks.{marks, element_marks, field_marks, unmarked, unmarked_elements, unmarked_fields}
use Rattle.json5_write.specs.Out.{written_text}
use Rattle.json5_write.specs.WholeOutputs.{IsText}
use Rattle.json5_write.specs.WrittenTrees.{Written}
use Rattle.json5_write.proofs.ReadBack.{whole_value}
use Rattle.json5_write.proofs.Unmarked.{tree_again}
use Rattle.json5_write.proofs.WrittenDepths.{piece_whole}
use Rattle.json5_edit.specs.Places.{IsValue}
use Rattle.json5_edit_values.specs.Spelled.{MeansAlike, SpellsAlike}

-- what is written of a tree is a value of it
pub text_value : (t : Written) (bytes : List ℕ) → IsText (written_text t) bytes → Val (chars bytes) (marks t)
text_value t bytes w = subst (λ x. Val x (marks t)) (sym w.characters) (whole_value max_depth 0 t (written_text t).text (piece_whole (written_text t) w.stop))

-- which is itself again without its marks
pub same_again : (t : Written) (bytes : List ℕ) → IsText (written_text t) bytes → unmarked (marks t) ≡ t
same_again t bytes w = tree_again max_depth t 0 w.stop

itself : (n : ℕ) → n ≤ n
itself n = omega arith

-- a value that has the lexemes of another has its tree
pub same_value : (x y : List ℕ) (t : Tree) → Val x t → IsValue max_depth y → HaveSameLexemes x y → Val y t
same_value x y t v (u, w, d) h =
    let same = same_tree (depth t) (depth u) x y t u (alone (depth t) x t v (itself (depth t))) (alone (depth u) y u w (itself (depth u))) h in
    subst (Val y) (sym same) w

-- a text that means what another says has its tree but for the marks
pub means_alike : (x y : List ℕ) (t : Tree) (d : Datum) → Val x t → ((v : Tree) × Doc max_depth x v × (d ≡ datum_of v)) → ReadsAs max_depth y d → IsValue max_depth y → MeansAlike t y
means_alike x y t d spells (v, doc, is) r (u, w, k) =
    let one : v ≡ t = one_tree max_depth (depth t) x v t doc (alone (depth t) x t spells (itself (depth t))) in
    let two : r.tree ≡ u = one_tree max_depth max_depth y r.tree u r.document (alone max_depth y u w k) in
    (u, w, sym (written_tree u d (sym r.same ∙ ap datum_of two)) ∙ written_tree t d (is ∙ ap datum_of one))

-- the text itself does too
pub as_it_is : (whole x : List ℕ) (t : Tree) → Val x t → SpellsAlike t whole x
as_it_is whole x t v = (t, v, refl, λ no. refl)

-- the marks say nothing of the depth
mutual
  same_depth : (t : Tree) → depth (marks (unmarked t)) ≡ depth t
  same_depth null = refl
  same_depth (boolean b) = refl
  same_depth (number n) = refl
  same_depth (text u escape_free) = refl
  same_depth (array ts) = ap suc (same_depths ts)
  same_depth (object ps) = ap suc (same_member_depths ps)

  same_depths : (ts : Trees) → depths (element_marks (unmarked_elements ts)) ≡ depths ts
  same_depths no_more = refl
  same_depths (more t ts) = rw (same_depth t, same_depths ts) refl

  same_member_depths : (ps : Members) → member_depths (field_marks (unmarked_fields ps)) ≡ member_depths ps
  same_member_depths no_member = refl
  same_member_depths (member u escape_free t ps) = rw (same_depth t, same_member_depths ps) refl

pub alike_depth : (u : Tree) (t : Written) → unmarked u ≡ t → depth u ≡ depth (marks t)
alike_depth u t e = sym (same_depth u) ∙ ap (λ z. depth (marks z)) e

pub err_then : {A B : Type 0} {P Q : B → Type 0} (r : Result A B) → ((e : B) → P e → Q e) → IfErr r P → IfErr r Q
err_then (Ok a) k p = tt
err_then (Err e) k p = k e p

pub on_true : {P : Type 0} (b : Bool) → (b ≡ true → P) → OnTrue b P
on_true true k = k refl
on_true false k = tt
