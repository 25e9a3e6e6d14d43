-- What is written of a document's value is a document of the same tree.
use Rattle.std.proofs.Common.{◌≡◌, ℕ, true, false, List, Option, refl, sym, ap, ◌∙◌, subst}
use Rattle.std.specs.Prelude.{Result, Ok, Err, IfOk, IfErr, MatchResult}
use Rattle.std.specs.Str.{chars, encode_utf8_all}
use Rattle.json5_grammar.specs.declared.error_code.ErrorCode.TheVariants as codes_of
use Rattle.json5_grammar.specs.Language.Documents.{Doc, max_depth}
use Rattle.json5_grammar.specs.Language.Trees.{Tree, Trees, Members, null, boolean, number, text, array, object, no_more, more, no_member, member}
use Rattle.json5_grammar.proofs.OneTree.{one_tree}
use Rattle.json5_types.specs.declared.error.Error.{Error}
use Rattle.json5_tokens.specs.Cursor.{IsOutOfMemory}
use Rattle.json5_types.specs.Errors.{FaultKind, code, custom, failed_write, kind_of}
use Rattle.json5_types.specs.ValueMeanings.{Datum}
use Rattle.json5_read.specs.TreeMeanings.{datum_of, items_of, fields_of}
use Rattle.json5_write.specs.EscapeFreeMarks.{marks, unmarked, unmarked_elements, unmarked_fields}
use Rattle.json5_write.specs.Out.{Out, whole, invalid_key, too_deep, written_text, text_within}
use Rattle.json5_write.specs.Pieces.{AppendsFront, Pushes}
use Rattle.json5_write.specs.WholeOutputs.{IsText, RefusesToString, StopsAs}
use Rattle.json5_write.specs.ValueTrees.{datum_tree, items_tree, fields_tree}
use Rattle.json5_write.specs.Writes.{SerializerState, Writes, Refusal, by_key, by_depth, by_writer, by_refusal, by_none, refusal_of, RefusesBy, fresh, ended}
use Rattle.json5_write.proofs.WrittenDepths.{text_document}
use Rattle.json5_write.proofs.ReadTreesWritable.{read_written}
use Rattle.json5_write.proofs.Unmarked.{tree_again}
use Rattle.json5_format.specs.Formatted.{IsFormatted, IsFormattedWithin}

-- ---- the tree that is written

-- what a tree means is written as the tree without marks
mutual
  pub same_tree : (t : Tree) → datum_tree (datum_of t) ≡ unmarked t
  same_tree null = refl
  same_tree (boolean b) = refl
  same_tree (number n) = refl
  same_tree (text u escape_free) = refl
  same_tree (array ts) = rw (same_trees ts) refl
  same_tree (object ps) = rw (same_pairs ps) refl

  same_trees : (ts : Trees) → items_tree (items_of ts) ≡ unmarked_elements ts
  same_trees no_more = refl
  same_trees (more t ts) = rw (same_tree t, same_trees ts) refl

  same_pairs : (ps : Members) → fields_tree (fields_of ps) ≡ unmarked_fields ps
  same_pairs no_member = refl
  same_pairs (member u escape_free t ps) = rw (same_tree t, same_pairs ps) refl

-- a value that means the same as the tree is written as the tree without marks
pub written_tree : (t : Tree) (d : Datum) → d ≡ datum_of t → datum_tree d ≡ unmarked t
written_tree t d e = ap datum_tree e ∙ same_tree t

-- its output is whole
pub value_within : (limit : ℕ) (x : List ℕ) (t : Tree) (d : Datum) → Doc limit x t → d ≡ datum_of t → (text_within limit (datum_tree d)).stop ≡ whole
value_within limit x t d doc e = subst (λ z. (text_within limit z).stop ≡ whole) (sym (written_tree t d e)) (read_written limit x t doc)

pub value_whole : (x : List ℕ) (t : Tree) (d : Datum) → Doc max_depth x t → d ≡ datum_of t → (written_text (datum_tree d)).stop ≡ whole
value_whole = value_within max_depth

pub formatted_within : (limit : ℕ) (x bytes : List ℕ) (t : Tree) (d : Datum) → Doc limit x t → d ≡ datum_of t → IsText (text_within limit (datum_tree d)) bytes → IsFormattedWithin limit x bytes
formatted_within limit x bytes t d doc e w = record {
  tree = t;
  document = doc;
  written = subst (λ z. IsText (text_within limit z) bytes) (written_tree t d e) w;
  again = marks (datum_tree d);
  reads_back = text_document limit (datum_tree d) bytes w;
  same = tree_again limit (datum_tree d) 0 w.stop ∙ written_tree t d e;
}

pub formatted : (x bytes : List ℕ) (t : Tree) (d : Datum) → Doc max_depth x t → d ≡ datum_of t → IsText (written_text (datum_tree d)) bytes → IsFormatted x bytes
formatted = formatted_within max_depth

-- ---- formatting twice

-- what is written of a formatted output is that output
pub formatted_again : (limit : ℕ) (x bytes other : List ℕ) → IsFormattedWithin limit x bytes → IsFormattedWithin limit (chars bytes) other → other ≡ bytes
formatted_again limit x bytes other f g =
    let tree = one_tree limit limit (chars bytes) g.tree f.again g.document f.reads_back in
    g.written.encoded ∙ (ap (λ t. encode_utf8_all (text_within limit t).text) (ap unmarked tree ∙ f.same) ∙ sym f.written.encoded)

-- ---- a whole output

-- only want of memory refuses it
kind_of_whole : (o : Out) (k : FaultKind) → o.stop ≡ whole → StopsAs o k → k ≡ code codes_of.OutOfMemory
kind_of_whole o (code codes_of.OutOfMemory) w h = refl
kind_of_whole o (code codes_of.InvalidKey) w h = let e : invalid_key ≡ whole = sym h ∙ w in absurd (cc)
kind_of_whole o (code codes_of.TooDeep) w h = let e : too_deep ≡ whole = sym h ∙ w in absurd (cc)
kind_of_whole o (code _) w h = absurd h
kind_of_whole o failed_write w h = absurd h
kind_of_whole o (custom _) w h = absurd h

pub only_memory : (limit : ℕ) (x : List ℕ) (t : Tree) (d : Datum) (e : Error) → Doc limit x t → d ≡ datum_of t → RefusesToString (text_within limit (datum_tree d)) e → IsOutOfMemory e
only_memory limit x t d e doc is h = kind_of_whole (text_within limit (datum_tree d)) (kind_of e) (value_within limit x t d doc is) h.stops

-- what is written of a document's value
pub completed : {S : Type 0} (limit : ℕ) (bytes : S → List ℕ) (x : List ℕ) (t u : Tree) (d : Datum) (r : Result S Error) → Doc limit x t → Doc limit x u → d ≡ datum_of t
    → IfOk r (λ s. IsText (text_within limit (datum_tree d)) (bytes s)) → IfErr r (λ e. RefusesToString (text_within limit (datum_tree d)) e)
    → MatchResult r (λ s. IsText (text_within limit (unmarked u)) (bytes s)) IsOutOfMemory
completed limit bytes x t u d (Ok s) a b is w k = subst (λ z. IsText (text_within limit z) (bytes s)) (written_tree t d is ∙ ap unmarked (one_tree limit limit x t u a b)) w
completed limit bytes x t u d (Err e) a b is w k = only_memory limit x t d e a is k

-- only a failed write refuses it to a writer, which then holds a prefix
front_of_whole : (o : Out) (r : Refusal) (old new : SerializerState) → o.stop ≡ whole → old.failed ≡ false → RefusesBy o old r new → AppendsFront old.known new.known (encode_utf8_all o.text)
front_of_whole o by_key old new w live h = let e : invalid_key ≡ whole = sym h.stop ∙ w in absurd (cc)
front_of_whole o by_depth old new w live h = let e : too_deep ≡ whole = sym h.stop ∙ w in absurd (cc)
front_of_whole o by_writer old new w live h = (h.front, h.rest, h.cut, h.bytes)
front_of_whole o by_refusal old new w live h = let e : false ≡ true = sym live ∙ h.was in absurd (cc)
front_of_whole o by_none old new w live h = absurd h

pub pushes_whole : {A : Type 0} (o : Out) (old new : Option (List ℕ)) (result : Result A Error) → o.stop ≡ whole → Writes o (fresh old) result (ended new result) → Pushes old new (encode_utf8_all o.text) result
pushes_whole o old new (Ok x) w h = h.bytes
pushes_whole o old new (Err e) w h = front_of_whole o (refusal_of (kind_of e)) (fresh old) (ended {A = Unit {0}} new (Err e)) w refl h.leaves
