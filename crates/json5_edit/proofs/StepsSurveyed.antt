-- What a survey of a collection says of a step from it.
use denote.Ref.{Bor}
use Rattle.std.proofs.Common.{◌≡◌, ℕ, zero, suc, ◌≤◌, Bool, true, false, List, [], ◌∷◌, ◌++◌, length, refl, ap, ◌∙◌, subst, Option, Some, None, nat_eq, arith}
use Rattle.std.specs.Prelude.{MatchOption}
use Rattle.std.specs.Cmp.Lexicographic.{pointwise, bytes_decides}
use Rattle.std.specs.Str.{chars, encode_utf8_all}
use Rattle.json5_grammar.specs.Language.Documents.{Doc, max_depth}
use Rattle.json5_grammar.specs.Language.Trees.{Tree, null, boolean, number, text, array, object, Trees, Members, no_more, more, no_member, member}
use Rattle.json5_read.specs.declared.brackets.BracketKind.TheVariants as kind
use Rattle.json5_edit.specs.Comparing.{LacksKey, step_kind}
use Rattle.json5_edit.specs.Entries.{elements, members, entries, kind_of}
use Rattle.json5_edit.specs.Parts.{element_of, later_or, member_of, in_element, in_member, positions_of}
use Rattle.json5_edit.specs.Places.{IsValue, LeadsNowhere}
use Rattle.json5_edit.specs.Refusals.{BeginsNo, HasKey, IsNo}
use Rattle.json5_edit.specs.Spots.{Misses, IsFound, Surveys}
use Rattle.json5_edit.specs.declared.paths.Step.{Step}
use Rattle.json5_edit.specs.declared.paths.Step.TheVariants as step
use Rattle.json5_edit.specs.declared.survey.Found.{Found}
use Rattle.json5_edit.specs.declared.survey.Survey.{Survey}
use Rattle.json5_edit.proofs.Spotted.{value_document, first_key, later_entries}

-- ---- a step that goes nowhere

no_element : (i : ℕ) (ts : Trees) → length (elements ts) ≤ i → element_of i ts ≡ None
no_element i no_more l = refl
no_element zero (more t ts) l = absurd (omega (arith, l))
no_element (suc i) (more t ts) l = no_element i ts (omega (arith, l))

other_name : (u k : List ℕ) → (u ≡ k → ⊥) → (b : Bool) → pointwise nat_eq u k ≡ b → b ≡ false
other_name u k n true e = absurd (n ((bytes_decides u k).0 e))
other_name u k n false e = refl

no_member_of : (k : List ℕ) (ps : Members) → LacksKey k (members ps) → member_of k ps ≡ None
no_member_of k no_member l = refl
no_member_of k (member u e t ps) (n, l) =
    let none = no_member_of k ps l in
    let other : pointwise nat_eq (encode_utf8_all u) k ≡ false = other_name (encode_utf8_all u) k n (pointwise nat_eq (encode_utf8_all u) k) refl in
    ap (λ r. later_or r (pointwise nat_eq (encode_utf8_all u) k) t) none ∙ ap (λ b. later_or None b t) other

misses_all : (s : Step) (t : Tree) → kind_of t ≡ Some (step_kind s) → Misses s (entries t) → positions_of (s ∷ []) t ≡ None
misses_all (step.Index i) (array ts) k m = ap (in_element i (positions_of [])) (no_element i ts m)
misses_all (step.Key key) (object ps) k m = ap (in_member (positions_of [])) (no_member_of key.now ps m)
misses_all (step.Index i) (object ps) k m = refl
misses_all (step.Key key) (array ts) k m = refl
misses_all (step.Index i) null k m = refl
misses_all (step.Index i) (boolean b) k m = refl
misses_all (step.Index i) (number n) k m = refl
misses_all (step.Index i) (text u b) k m = refl
misses_all (step.Key key) null k m = refl
misses_all (step.Key key) (boolean b) k m = refl
misses_all (step.Key key) (number n) k m = refl
misses_all (step.Key key) (text u b) k m = refl

not_of_kind : (s : Step) (t : Tree) → IsNo (step_kind s) t → positions_of (s ∷ []) t ≡ None
not_of_kind (step.Index i) (array ts) n = absurd (n refl)
not_of_kind (step.Key key) (object ps) n = absurd (n refl)
not_of_kind (step.Index i) (object ps) n = refl
not_of_kind (step.Key key) (array ts) n = refl
not_of_kind (step.Index i) null n = refl
not_of_kind (step.Index i) (boolean b) n = refl
not_of_kind (step.Index i) (number q) n = refl
not_of_kind (step.Index i) (text u b) n = refl
not_of_kind (step.Key key) null n = refl
not_of_kind (step.Key key) (boolean b) n = refl
not_of_kind (step.Key key) (number q) n = refl
not_of_kind (step.Key key) (text u b) n = refl

pub no_collection : (s : Step) (limit : ℕ) (bytes : List ℕ) → limit ≤ max_depth → IsValue limit (chars bytes) → BeginsNo (step_kind s) (chars bytes) → LeadsNowhere bytes (s ∷ [])
no_collection s limit bytes small (t, v, d) n = (t, value_document max_depth (chars bytes) t v (omega (arith, d, small)), not_of_kind s t (n t v))

-- ---- what was found

-- what an option holds
pub found_none : {A : Type 0} (None_is : Type 0) (Some_is : A → Type 0) (o : Option A) → o ≡ None → MatchOption o None_is Some_is → None_is
found_none None_is Some_is None e m = m
found_none None_is Some_is (Some a) e m = absurd (cc)

pub found_some : {A : Type 0} (None_is : Type 0) (Some_is : A → Type 0) (o : Option A) (a : A) → o ≡ Some a → MatchOption o None_is Some_is → Some_is a
found_some None_is Some_is (Some b) a e m = let same : b ≡ a = cc in subst Some_is same m
found_some None_is Some_is None a e m = absurd (cc)

pub no_entry : {limit : ℕ} {bytes : List ℕ} {found : Survey} (s : Step) → limit ≤ max_depth → found.entry ≡ None → Surveys s limit bytes found → LeadsNowhere bytes (s ∷ [])
no_entry {limit = limit} {bytes = bytes} {found = found} s small e p =
    let d = p.shallow in
    (p.tree, value_document max_depth (chars bytes) p.tree p.value (omega (arith, d, small)), misses_all s p.tree p.kind (found_none (Misses s (entries p.tree)) (IsFound s limit bytes p.tree) found.entry e p.entry))

-- ---- a key that a member has

later_some : (r : Option (ℕ × Tree)) (b : Bool) (t : Tree) → (found : ℕ × Tree) × (r ≡ Some found) → (found : ℕ × Tree) × (later_or r b t ≡ Some found)
later_some (Some (i, s)) b t e = ((suc i, s), refl)
later_some None b t (f, e) = absurd (cc)

this_or_later : (r : Option (ℕ × Tree)) (b : Bool) (t : Tree) → b ≡ true → (found : ℕ × Tree) × (later_or r b t ≡ Some found)
this_or_later (Some (i, s)) b t e = ((suc i, s), refl)
this_or_later None true t e = ((0, t), refl)
this_or_later None false t e = absurd (cc)

nothing_there : (a : List ℕ × Tree) (before after : List (List ℕ × Tree)) → [] ≡ before ++ (a ∷ after) → ⊥
nothing_there a [] after e = cc
nothing_there a (b ∷ before) after e = cc

has_member : (k : List ℕ) (ps : Members) (before after : List (List ℕ × Tree)) (g : Tree) → members ps ≡ before ++ ((k, g) ∷ after) → (found : ℕ × Tree) × (member_of k ps ≡ Some found)
has_member k no_member before after g e = absurd (nothing_there (k, g) before after e)
has_member k (member u b t ps) [] after g e = this_or_later (member_of k ps) (pointwise nat_eq (encode_utf8_all u) k) t ((bytes_decides (encode_utf8_all u) k).1 (ap first_key e))
has_member k (member u b t ps) (a ∷ before) after g e = later_some (member_of k ps) (pointwise nat_eq (encode_utf8_all u) k) t (has_member k ps before after g (ap later_entries e))

in_tree : (k : List ℕ) (t : Tree) (before after : List (List ℕ × Tree)) (g : Tree) → kind_of t ≡ Some kind.Object → entries t ≡ before ++ ((k, g) ∷ after) → HasKey k t
in_tree k (object ps) before after g e is = has_member k ps before after g is
in_tree k (array ts) before after g e is = absurd (cc)
in_tree k null before after g e is = absurd (cc)
in_tree k (boolean b) before after g e is = absurd (cc)
in_tree k (number n) before after g e is = absurd (cc)
in_tree k (text u b) before after g e is = absurd (cc)

pub key_taken : {limit : ℕ} {bytes : List ℕ} {found : Survey} (k : Bor (List ℕ)) (n : Found) → limit ≤ max_depth → found.entry ≡ Some n → Surveys (step.Key k) limit bytes found → (t : Tree) × Doc max_depth (chars bytes) t × HasKey k.now t
key_taken {limit = limit} {bytes = bytes} {found = found} k n small e p =
    let q = found_some (Misses (step.Key k) (entries p.tree)) (IsFound (step.Key k) limit bytes p.tree) found.entry n e p.entry in
    let d = p.shallow in
    (p.tree, value_document max_depth (chars bytes) p.tree p.value (omega (arith, d, small)), in_tree k.now p.tree (entries q.entry.before) q.entry.after q.entry.gone p.kind q.entry.all)

-- ---- a text that was made and checked
