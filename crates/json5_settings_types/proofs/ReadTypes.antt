-- Values that are read, and then accepted or refused.
use Rattle.std.proofs.Common.{◌≡◌, ◌≢◌, ◌∙◌, ◌⊎◌, inl, inr, ◌<◌, ◌^◌, ℕ, Bool, true, false, List, [], ◌∷◌, Option, Some, None, length, map, refl, sym, ap, arith, ne_eqb, IsUtf8, String, string_bytes}
use Rattle.std.specs.Prelude.{◌==◌, nat_lt, ℤ, pos, negsuc, neg_ℤ, ◌≤ℤ◌, ◌<ℤ◌}
use Rattle.std.specs.Int.Signed.{le_z}
use Rattle.std.specs.List.{All, list_any}
use Rattle.std.specs.Str.{bytes_eq, chars}
use Rattle.std.specs.declared.alloc.Global.{Global}
use Rattle.std.proofs.lemmas.Bool.Decides.{nat_tests}
use Rattle.std.proofs.lemmas.Int.{ints}
use Rattle.std.proofs.lemmas.List.Elements.{All-head, All-tail}
use Rattle.std.proofs.lemmas.List.Folds.{list_any_none}
use Rattle.std.proofs.lemmas.Str.{encodes-chars}
use Rattle.json5_grammar.specs.declared.position.Position.{Position}
use Rattle.json5_grammar.specs.Language.Trees.{Tree}
use Rattle.json5_types.specs.declared.error.Error.{Error}
use Rattle.json5_types.specs.Errors.{IsCustomAt, LacksMemory}
use Rattle.json5_tokens.specs.Cursor.{IsPositionOf}
use Rattle.json5_grammar.specs.Model.Collections.{array_of, contents}
use Rattle.json5_de.specs.Convert.{signed_below, text_of}
use Rattle.json5_de.specs.ConvertLists.{if_some}
use Rattle.json5_de.specs.DeserializeLaw.{TookValue}
use Rattle.json5_de.specs.Refinement.{NotAccepted, if_more, refined}
use Rattle.json5_de.specs.Faults.{RefusedByOrMemory}
use Rattle.json5_de.specs.Spans.{SpansValue}
use Rattle.json5_de.specs.State.{State}
use Rattle.json5_de.proofs.Refinement.{refused_at}
use Rattle.json5_ser.specs.EscapeFreeMarks.{element_marks, marks}
use Rattle.json5_ser.specs.WrittenTrees.{Written, array, elements_of, integer, text}
use Rattle.json5_settings_types.specs.Bounds.{IsOwnFault, if_some_element, if_within}
use Rattle.json5_settings_types.specs.Paths.{if_path}
use Rattle.json5_settings_types.specs.Spellings.{if_spelled}
use Rattle.json5_settings_types.specs.Twins.{HasTwin, if_no_twins, no_twins}

-- what is accepted of values, and of their contents
pub accepts_map : {A B : Type 0} (f : A → B) (xs : List A) → if_some_element (map f xs) ≡ if_some (map f) (if_some_element xs)
accepts_map f [] = refl
accepts_map f (x ∷ xs) = refl

-- what isn't accepted is refused where it stands
pub refused_own : {A B : Type 0} (f : Tree → Option A) (g : A → Option B) (old new : State) (a : A) (start end : ℕ) (e : Error) → (t : Tree) × TookValue old t new × (f t ≡ Some a) → SpansValue old start end new → g a ≡ None → IsOwnFault new.input start e → RefusedByOrMemory (NotAccepted f g) old e
refused_own f g old new a start end e took span none fault = by fault.own
  where
    by : LacksMemory e ⊎ ((p : Position) × IsPositionOf new.input start p × IsCustomAt (Some p) e) → RefusedByOrMemory (NotAccepted f g) old e
    by (inl memory) = inl memory
    by (inr (p, place, own)) = inr (refused_at f g old new a start end p e took span none place own)

-- ---- what is written reads back

contents_back : {V C : Type 0} (tree : V → Written) (f : Tree → Option C) (content : V → C) (vs : List V) → All (λ v. f (marks (tree v)) ≡ Some (content v)) vs → contents f (element_marks (elements_of tree vs)) ≡ Some (map content vs)
contents_back tree f content [] h = refl
contents_back tree f content (v ∷ vs) h =
    let first = All-head (λ v. f (marks (tree v)) ≡ Some (content v)) v vs h in
    let others = contents_back tree f content vs (All-tail (λ v. f (marks (tree v)) ≡ Some (content v)) v vs h) in
    rw (first, others) refl

some_element : {C : Type 0} (cs : List C) → 0 < length cs → if_some_element cs ≡ Some cs
some_element [] some = absurd (omega arith)
some_element (c ∷ cs) some = refl

pub list_back : {V C : Type 0} (tree : V → Written) (f : Tree → Option C) (content : V → C) (vs : List V) → 0 < length vs → All (λ v. f (marks (tree v)) ≡ Some (content v)) vs → refined (array_of (contents f)) if_some_element (marks (array (elements_of tree vs))) ≡ Some (map content vs)
list_back tree f content vs some h = ap (if_more if_some_element) (contents_back tree f content vs h) ∙ accepts_map content vs ∙ ap (if_some (map content)) (some_element vs some)

signed_back : (z : ℤ) → neg_ℤ (pos (2 ^ 63)) ≤ℤ z → z <ℤ pos (2 ^ 63) → signed_below (2 ^ 63) (marks (integer z)) ≡ Some z
signed_back (pos n) low high = let l : n < 2 ^ 63 = omega (arith, ints, high) in let h : nat_lt n (2 ^ 63) ≡ true = grind (arith, nat_tests) in rw h refl
signed_back (negsuc n) low high = let l : n < 2 ^ 63 = omega (arith, ints, low) in let h : nat_lt n (2 ^ 63) ≡ true = grind (arith, nat_tests) in rw h refl

pub integer_back : (low high z : ℤ) → low ≤ℤ z → z ≤ℤ high → neg_ℤ (pos (2 ^ 63)) ≤ℤ z → z <ℤ pos (2 ^ 63) → refined (signed_below (2 ^ 63)) (if_within low high) (marks (integer z)) ≡ Some z
integer_back low high z above below least most =
    let yes : le_z low z ≡ true = grind (arith, ints, above) in
    let too : le_z z high ≡ true = grind (arith, ints, below) in
    ap (if_more (if_within low high)) (signed_back z least most) ∙ rw (yes, too) refl

-- ---- values with their texts

pub spelled_none : {M : Type 0} (spells : List ℕ → Option M) (bytes : List ℕ) → None ≡ spells bytes → if_spelled spells bytes ≡ None
spelled_none spells bytes is = ap (if_some (λ m. (m, bytes))) (sym is)

pub spelled_some : {M : Type 0} (spells : List ℕ → Option M) (bytes : List ℕ) (m : M) → Some m ≡ spells bytes → if_spelled spells bytes ≡ Some (m, bytes)
spelled_some spells bytes m is = ap (if_some (λ m. (m, bytes))) (sym is)

pub spelling_back : {M : Type 0} (spells : List ℕ → Option M) (bytes : List ℕ) (m : M) → IsUtf8 bytes → spells bytes ≡ Some m → refined text_of (if_spelled spells) (marks (text (chars bytes))) ≡ Some (m, bytes)
spelling_back spells bytes m utf8 is = ap (if_spelled spells) (encodes-chars bytes utf8) ∙ spelled_some spells bytes m (sym is)

-- ---- paths

no_nul : (bytes : List ℕ) → All (λ b. b ≢ 0) bytes → list_any (λ b. b == 0) bytes ≡ false
no_nul bytes none = list_any_none (λ b. b == 0) bytes (All-map bytes none)
  where
    All-map : (bytes : List ℕ) → All (λ b. b ≢ 0) bytes → All (λ b. (b == 0) ≡ false) bytes
    All-map bytes none i d inside = ne_eqb _ 0 (none i d inside)

pub path_back : (bytes : List ℕ) → IsUtf8 bytes → 0 < length bytes → All (λ b. b ≢ 0) bytes → refined text_of if_path (marks (text (chars bytes))) ≡ Some bytes
path_back bytes utf8 some none =
    let long : (length bytes == 0) ≡ false = grind (arith, nat_tests) in
    ap if_path (encodes-chars bytes utf8) ∙ rw (long, no_nul bytes none) refl

-- ---- lists without twins

pub twins_none : {C : Type 0} (same : C → C → Bool) (cs : List C) → no_twins same cs ≡ false → if_no_twins same cs ≡ None
twins_none same cs is = rw is refl

pub twins_some : {C : Type 0} (same : C → C → Bool) (cs : List C) → no_twins same cs ≡ true → if_no_twins same cs ≡ Some cs
twins_some same cs is = rw is refl

pub twin_missed : {C : Type 0} (same : C → C → Bool) (cs : List C) (twin : Option ℕ) → HasTwin same cs twin → ((place : ℕ) → twin ≡ Some place → ⊥) → no_twins same cs ≡ true
twin_missed same cs None is none = is
twin_missed same cs (Some place) is none = absurd (none place refl)

pub without_twins_back : {V C : Type 0} (same : C → C → Bool) (tree : V → Written) (f : Tree → Option C) (content : V → C) (vs : List V) → no_twins same (map content vs) ≡ true → All (λ v. f (marks (tree v)) ≡ Some (content v)) vs
    → refined (array_of (contents f)) (if_no_twins same) (marks (array (elements_of tree vs))) ≡ Some (map content vs)
without_twins_back same tree f content vs differ back = ap (if_more (if_no_twins same)) (contents_back tree f content vs back) ∙ twins_some same (map content vs) differ

-- strings are read back, whatever they are
pub texts_back : (tree : String Global → Written) (values : List (String Global)) → ((s : String Global) → text_of (marks (tree s)) ≡ Some (string_bytes s)) → contents text_of (element_marks (elements_of tree values)) ≡ Some (map string_bytes values)
texts_back tree [] back = refl
texts_back tree (s ∷ ss) back = let first = back s in let others = texts_back tree ss back in rw (first, others) refl

pub unique_back : (tree : String Global → Written) (values : List (String Global)) → ((s : String Global) → text_of (marks (tree s)) ≡ Some (string_bytes s)) → no_twins bytes_eq (map string_bytes values) ≡ true
    → refined (array_of (contents text_of)) (if_no_twins bytes_eq) (marks (array (elements_of tree values))) ≡ Some (map string_bytes values)
unique_back tree values back differ = ap (if_more (if_no_twins bytes_eq)) (texts_back tree values back) ∙ twins_some bytes_eq (map string_bytes values) differ
