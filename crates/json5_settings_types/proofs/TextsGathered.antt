-- Texts that are gathered into a set.
use Rattle.std.proofs.Common.{◌≡◌, ◌∙◌, ◌||◌, ℕ, Bool, true, false, List, [], ◌∷◌, ◌++◌, Some, ap, refl, sym, String, string_bytes}
use Rattle.std.proofs.Math.Path.{fun_ext}
use Rattle.std.proofs.lemmas.List.{map-append}
use Rattle.std.proofs.lemmas.List.Folds.{list_any-append}
use Rattle.std.proofs.lemmas.Slice.Eq.{bytes_eq-Decides}
use Rattle.std.specs.declared.alloc.Global.{Global}
use Rattle.std.specs.declared.cmp.Ordering.{Ordering}
use Rattle.std.specs.declared.cmp.Ordering.TheVariants.{Less, Equal, Greater}
use Rattle.std.specs.BTreeSet.{insert_key}
use Rattle.std.specs.Cmp.Lexicographic.{slice_cmp, texts_ties}
use Rattle.std.specs.Ordering.{is_eq, match_ordering, nat_cmp}
use Rattle.std.specs.Str.{bytes_eq}
use Rattle.json5_grammar.specs.Language.Trees.{Tree}
use Rattle.json5_grammar.specs.Model.Collections.{array_of, contents}
use Rattle.json5_types.specs.declared.error.Error.{Error}
use Rattle.json5_de.specs.Convert.{text_of}
use Rattle.json5_de.specs.ConvertLists.{if_some}
use Rattle.json5_de.specs.DeserializeLaw.{OnlyForMemory}
use Rattle.json5_de.specs.State.{State}
use Rattle.json5_ser.specs.EscapeFreeMarks.{marks}
use Rattle.json5_ser.specs.WrittenTrees.{Written, array, elements_of}
use Rattle.json5_fields.proofs.Described.{made_of}
use Rattle.json5_settings_types.specs.TextSets.{IsSetOf, has_text, set_of}
use Rattle.json5_settings_types.specs.Twins.{is_like_one, texts_in}
use Rattle.json5_settings_types.proofs.ReadTypes.{texts_back}

in_front : (k x l : Bool) → (k || (x || l)) ≡ ((x || l) || (k || false))
in_front true true l = refl
in_front true false true = refl
in_front true false false = refl
in_front false true l = refl
in_front false false true = refl
in_front false false false = refl

again : (k x l : Bool) → k ≡ x → (x || l) ≡ ((x || l) || (k || false))
again k true l same = refl
again k false true same = refl
again k false false same = rw same refl

behind : (x l m : Bool) (n : Bool) → n ≡ (l || m) → (x || n) ≡ ((x || l) || m)
behind true l m n is = refl
behind false l m n is = is

module _ (k : String Global) (u : List ℕ) where
  -- what a set has once a text was inserted
  inserted : (ks : List (String Global)) → has_text (insert_key (λ x y. slice_cmp nat_cmp (string_bytes x) (string_bytes y)) ks k) u ≡ (has_text ks u || (bytes_eq (string_bytes k) u || false))
  inserted [] = refl
  inserted (x ∷ xs) = by (slice_cmp nat_cmp (string_bytes k) (string_bytes x)) refl (inserted xs)
    where
      more : List (String Global)
      more = insert_key (λ x y. slice_cmp nat_cmp (string_bytes x) (string_bytes y)) xs k

      same : slice_cmp nat_cmp (string_bytes k) (string_bytes x) ≡ Equal → string_bytes k ≡ string_bytes x
      same is = (bytes_eq-Decides (string_bytes k) (string_bytes x)).0 (texts_ties (string_bytes k) (string_bytes x) ∙ ap is_eq is)

      by : (o : Ordering) → slice_cmp nat_cmp (string_bytes k) (string_bytes x) ≡ o → has_text more u ≡ (has_text xs u || (bytes_eq (string_bytes k) u || false))
          → has_text (match_ordering o (k ∷ x ∷ xs) (x ∷ xs) (x ∷ more)) u ≡ ((bytes_eq (string_bytes x) u || has_text xs u) || (bytes_eq (string_bytes k) u || false))
      by Less is rest = in_front (bytes_eq (string_bytes k) u) (bytes_eq (string_bytes x) u) (has_text xs u)
      by Equal is rest = again (bytes_eq (string_bytes k) u) (bytes_eq (string_bytes x) u) (has_text xs u) (ap (λ w. bytes_eq w u) (same is))
      by Greater is rest = behind (bytes_eq (string_bytes x) u) (has_text xs u) (bytes_eq (string_bytes k) u || false) (has_text more u) rest

  later : (texts : List (String Global)) → has_text (texts ++ k ∷ []) u ≡ (has_text texts u || (bytes_eq (string_bytes k) u || false))
  later texts = ap (λ us. is_like_one bytes_eq us u) (map-append string_bytes texts (k ∷ [])) ∙ list_any-append (λ d. bytes_eq d u) (texts_in texts) (string_bytes k ∷ [])

-- one text more
pub one_gathered : (ks new texts : List (String Global)) (k : String Global) → new ≡ insert_key (λ x y. slice_cmp nat_cmp (string_bytes x) (string_bytes y)) ks k → IsSetOf ks texts → IsSetOf new (texts ++ k ∷ [])
one_gathered ks new texts k is were = λ u. ap (λ keys. has_text keys u) is ∙ inserted k u ks ∙ ap (λ b. b || (bytes_eq (string_bytes k) u || false)) (were u) ∙ sym (later k u texts)

-- a list that is read is the set of its texts
pub set_read : (t : Tree) (keys texts : List (String Global)) → IsSetOf keys texts → array_of (contents text_of) t ≡ Some (texts_in texts) → set_of t ≡ Some (has_text keys)
set_read t keys texts same is = ap (if_some (λ us u. is_like_one bytes_eq us u)) is ∙ ap (λ s. Some s) (fun_ext (λ u. sym (same u)))

pub set_for_memory : (old : State) (e : Error) → OnlyForMemory (array_of (contents text_of)) old e → OnlyForMemory set_of old e
set_for_memory old e only = record { memory = λ t r s live reads shallow is. let (us, converts, made) = made_of (λ us u. is_like_one bytes_eq us u) s (array_of (contents text_of) t) is in only.memory t r us live reads shallow converts }

pub set_back : (tree : String Global → Written) → ((s : String Global) → text_of (marks (tree s)) ≡ Some (string_bytes s)) → (keys : List (String Global)) → set_of (marks (array (elements_of tree keys))) ≡ Some (has_text keys)
set_back tree back keys = ap (if_some (λ us u. is_like_one bytes_eq us u)) (texts_back tree keys back)
