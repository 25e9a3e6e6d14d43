-- The steps to the part of a value that a path leads to.
use denote.Ref.{Bor}
use Rattle.std.proofs.Common.{◌≡◌, ℕ, suc, ◌+◌, ◌≤◌, Bool, true, false, List, [], ◌∷◌, ◌++◌, length, refl, ap, sym, ◌∙◌, subst, inl, inr, ◌⊎◌, Option, Some, None, arith, nat_eq}
use Rattle.std.proofs.lemmas.Bool.{eqb-true}
use Rattle.std.specs.Cmp.Lexicographic.{pointwise}
use Rattle.std.specs.Prelude.{option_map, ◌==◌}
use Rattle.json5_grammar.specs.Language.Characters.{NotBegun}
use Rattle.json5_grammar.specs.Language.Trees.{Tree, null, boolean, number, text, array, object, Trees, Members, no_more, no_member, depth, depths, member_depths}
use Rattle.json5_grammar.specs.Language.Values.{Val, is_empty_array, is_array, is_empty_object, is_object}
use Rattle.json5_types.specs.Cows.{cow_bytes}
use Rattle.json5_read.specs.declared.brackets.BracketKind.{BracketKind as Kind}
use Rattle.json5_read.specs.declared.brackets.BracketKind.TheVariants as kind
use Rattle.json5_walk.specs.declared.entry.EntryKey.{EntryKey}
use Rattle.json5_walk.specs.Nexts.{takes_value}
use Rattle.json5_walk.specs.Entries.{is_inside, BeginsEntry}
use Rattle.json5_walk.specs.Frames.{Frame, in_array, in_object, At, at_value, at_element, at_key, at_comma, value_frames}
use Rattle.json5_walk.specs.Moves.{Opens, EndsEntries}
use Rattle.json5_walk.specs.Walks.{Walked, IsAt, Moved, MovedMarking, Unmarked, room_of, PassesValue, NotOpened}
use Rattle.json5_walk.proofs.Entries.{there, front_moves}
use Rattle.json5_edit.specs.Comparing.{step_kind}
use Rattle.json5_edit.specs.Entries.{kind_of, read_in, around}
use Rattle.json5_edit.specs.Parts.{positions_of, count, count_members, positions}
use Rattle.json5_edit.specs.Seeks.{Finds, Seeks, SeeksEntry, SeeksOrSkips, is_sought, opened}
use Rattle.json5_edit.specs.declared.paths.Step.{Step}
use Rattle.json5_edit.specs.declared.paths.Step.TheVariants as step
use Rattle.json5_edit.proofs.Fronts.{value_taken, opened_at, Fronted, element, member, fronted, ended_at}
use Rattle.json5_edit.proofs.PartsFound.{count_snoc, count_snoc_member, found_element, same_element, found_member, same_member}

-- ---- values that aren't gone into

-- whether a value of this tree begins with such a bracket
abbrev is_of : Kind → Tree → Bool
is_of kind.Array (array ts) = true
is_of kind.Object (object ps) = true
is_of _ _ = false

pub array_begins : {s : List ℕ} {ts : Trees} → Val s (array ts) → (m : List ℕ) × (s ≡ 91 ∷ m)
array_begins (is_empty_array b) = (_, refl)
array_begins (is_array l) = (_, refl)

pub object_begins : {s : List ℕ} {ps : Members} → Val s (object ps) → (m : List ℕ) × (s ≡ 123 ∷ m)
object_begins (is_empty_object b) = (_, refl)
object_begins (is_object l) = (_, refl)

-- where no bracket may be opened none is in front of a value
not_here : (c : ℕ) (v : Walked) (s y m : List ℕ) (n : ℕ) → (takes_value v.next ≡ false) ⊎ ((v.limit ≤ length v.kinds) ⊎ NotBegun (λ d. d == c) v.unread) → true ≡ takes_value v.next → v.unread ≡ s ++ y → s ≡ c ∷ m → suc n ≤ room_of v → (c == c) ≡ true → ⊥
not_here c w s y m z (inl f) v e is r k = let h : true ≡ false = v ∙ f in absurd (cc)
not_here c w s y m z (inr (inl l)) v e is r k = absurd (omega (arith, l, r))
not_here c w s y m z (inr (inr n)) v e is r k =
    let begun : NotBegun (λ d. d == c) (c ∷ (m ++ y)) = subst (NotBegun (λ d. d == c)) (e ∙ ap (λ q. q ++ y) is) n in
    let h : true ≡ false = sym k ∙ begun in absurd (cc)

no_bracket : (k : Kind) (v : Walked) (t : Tree) (s y : List ℕ) → NotOpened k v → true ≡ takes_value v.next → v.unread ≡ s ++ y → Val s t → depth t ≤ room_of v → is_of k t ≡ false
no_bracket kind.Array v (array ts) s y n d e p r = let (m, is) = array_begins p in absurd (not_here 91 v s y m (depths ts) n d e is r refl)
no_bracket kind.Object v (object ps) s y n d e p r = let (m, is) = object_begins p in absurd (not_here 123 v s y m (member_depths ps) n d e is r refl)
no_bracket kind.Array v null s y n d e p r = refl
no_bracket kind.Array v (boolean b) s y n d e p r = refl
no_bracket kind.Array v (number q) s y n d e p r = refl
no_bracket kind.Array v (text u b) s y n d e p r = refl
no_bracket kind.Array v (object ps) s y n d e p r = refl
no_bracket kind.Object v null s y n d e p r = refl
no_bracket kind.Object v (boolean b) s y n d e p r = refl
no_bracket kind.Object v (number q) s y n d e p r = refl
no_bracket kind.Object v (text u b) s y n d e p r = refl
no_bracket kind.Object v (array ts) s y n d e p r = refl

index_nowhere : (i : ℕ) (path : List Step) (t : Tree) → is_of kind.Array t ≡ false → positions_of (step.Index i ∷ path) t ≡ None
index_nowhere i path null e = refl
index_nowhere i path (boolean b) e = refl
index_nowhere i path (number q) e = refl
index_nowhere i path (text u b) e = refl
index_nowhere i path (array ts) e = absurd (cc)
index_nowhere i path (object ps) e = refl

key_nowhere : (k : Bor (List ℕ)) (path : List Step) (t : Tree) → is_of kind.Object t ≡ false → positions_of (step.Key k ∷ path) t ≡ None
key_nowhere k path null e = refl
key_nowhere k path (boolean b) e = refl
key_nowhere k path (number q) e = refl
key_nowhere k path (text u b) e = refl
key_nowhere k path (array ts) e = refl
key_nowhere k path (object ps) e = absurd (cc)

-- ---- what the path leads to in a value

pub mark_seeks : {v0 v1 v2 : Walked} → Unmarked v0 v1 → MovedMarking (PassesValue v1 v2) v1 v2 → Seeks [] v0 v2
mark_seeks p q = record {
  text = q.text ∙ p.text;
  limit = q.limit ∙ p.limit;
  leads = λ s f.
      let (a, is, g) = q.leads (record { now = s.now; marked = None }) (p.leads s f) in
      let (t, x, e, d, split, val, small) = value_taken is in
      (t, Some (value_frames s.now), there e g, refl);
}

skip_seeks : {v0 v1 v2 v3 : Walked} (k : Kind) (path : List Step) → ((t : Tree) → is_of k t ≡ false → positions_of path t ≡ None) → Unmarked v0 v1 → NotOpened k v1 → v2 ≡ v1 → Moved (PassesValue v2 v3) v2 v3 → Seeks path v0 v3
skip_seeks {v1 = v1} {v2 = v2} {v3 = v3} k path none p n e q = record {
  text = q.text ∙ ap (λ (v : Walked). v.text) e ∙ p.text;
  limit = q.limit ∙ ap (λ (v : Walked). v.limit) e ∙ p.limit;
  leads = λ s f.
      let g : IsAt v2 (record { now = s.now; marked = None }) = subst (λ v. IsAt v (record { now = s.now; marked = None })) (sym e) (p.leads s f) in
      let (a, is, h) = q.leads (record { now = s.now; marked = None }) g in
      let (t, x, at, d, split, val, small) = value_taken is in
      let nowhere = none t (no_bracket k v2 t x v3.unread (subst (NotOpened k) (sym e) n) (d ∙ ap takes_value g.is_next) split val small) in
      (t, None, there at h, sym (ap (option_map (positions (value_frames s.now))) nowhere));
}

step_nowhere : (s : Step) (path : List Step) (t : Tree) → is_of (step_kind s) t ≡ false → positions_of (s ∷ path) t ≡ None
step_nowhere (step.Index i) path t e = index_nowhere i path t e
step_nowhere (step.Key k) path t e = key_nowhere k path t e

pub skip_seeks_step : {v0 v1 v2 v3 : Walked} {k : Kind} (s : Step) (path : List Step) → k ≡ step_kind s → Unmarked v0 v1 → NotOpened k v1 → v2 ≡ v1 → Moved (PassesValue v2 v3) v2 v3 → Seeks (s ∷ path) v0 v3
skip_seeks_step {v1 = v1} s path is p n e q = skip_seeks (step_kind s) (s ∷ path) (step_nowhere s path) p (subst (λ k. NotOpened k v1) is n) e q

pub opened_seeks : {v0 v1 v2 v3 : Walked} {k : Kind} (s : Step) (path : List Step) → k ≡ step_kind s → Unmarked v0 v1 → Moved (Opens k) v1 v2 → SeeksEntry s path v2 v3 → Seeks (s ∷ path) v0 v3
opened_seeks s path is p q k = record {
  text = k.text ∙ q.text ∙ p.text;
  limit = k.limit ∙ q.limit ∙ p.limit;
  leads = λ t f. let (a, opens, g) = q.leads (record { now = t.now; marked = None }) (p.leads t f) in k.leads (value_frames t.now) (there (opened_at opens ∙ ap (λ z. opened z (value_frames t.now)) is) g);
}

passed_text : (path : List Step) (v w : Walked) (same : Bool) → SeeksOrSkips same path v w → w.text ≡ v.text
passed_text path v w true q = q.text
passed_text path v w false q = q.text

passed_limit : (path : List Step) (v w : Walked) (same : Bool) → SeeksOrSkips same path v w → w.limit ≡ v.limit
passed_limit path v w true q = q.limit
passed_limit path v w false q = q.limit

-- ---- entries

-- how many entries a collection has
abbrev pub size_of : Tree → ℕ
size_of (array ts) = count ts
size_of (object ps) = count_members ps
size_of _ = 0

-- so many entries were passed since the bracket was opened, and what the path leads to in them is marked
pub record Passed (s : Step) (path : List Step) (first now : Walked) (n : ℕ) : Type 0 where
  pub text : now.text ≡ first.text
  pub limit : now.limit ≡ first.limit
  pub leads : (o : List Frame) → IsAt first (record { now = opened (step_kind s) o; marked = None }) → (a : At) × (m : Option (List Frame)) × IsAt now (record { now = a; marked = m }) × (is_inside a ≡ true) × (around a ≡ o) × (kind_of (read_in a) ≡ Some (step_kind s)) × (size_of (read_in a) ≡ n) × Finds o (s ∷ path) (read_in a) m

pub starts_passed : (s : Step) (path : List Step) (v : Walked) → Passed s path v v 0
starts_passed (step.Index i) path v = record { text = refl; limit = refl; leads = λ o f. (at_element no_more o, None, f, refl, refl, refl, refl, refl) }
starts_passed (step.Key k) path v = record { text = refl; limit = refl; leads = λ o f. (at_key no_member o, None, f, refl, refl, refl, refl, refl) }

pub passed_ends : {s : Step} {path : List Step} {first now new : Walked} {n : ℕ} → Passed s path first now n → Moved EndsEntries now new → SeeksEntry s path first new
passed_ends p q = record {
  text = q.text ∙ p.text;
  limit = q.limit ∙ p.limit;
  leads = λ o f.
      let (a, m, g, i, frames, k, size, finds) = p.leads o f in
      let (b, is, h) = q.leads (record { now = a; marked = m }) g in
      (read_in a, m, there (ended_at is ∙ ap (at_comma (read_in a)) frames) h, finds);
}

-- the value of an entry was passed, and what the path leads to is marked if the step goes to the entry
value_sought : (s : Step) {bytes : List ℕ} {t : Tree} {o : List Frame} {b : At} {v w : Walked} {m : Option (List Frame)} (path : List Step) (same : Bool) → same ≡ is_sought s (size_of t) bytes → Fronted bytes t o b → kind_of t ≡ Some (step_kind s) → IsAt v (record { now = b; marked = m }) → Finds o (s ∷ path) t m → SeeksOrSkips same path v w → (a : At) × (r : Option (List Frame)) × IsAt w (record { now = a; marked = r }) × (is_inside a ≡ true) × (around a ≡ o) × (kind_of (read_in a) ≡ Some (step_kind s)) × (size_of (read_in a) ≡ size_of t + 1) × Finds o (s ∷ path) (read_in a) r
value_sought (step.Index i) {m = m} path true e (element ts o none) k f finds q =
    let (u, r, g, h) = q.leads (record { now = at_element ts o; marked = m }) f in
    let size = count_snoc ts u in
    (at_comma u (in_array ts ∷ o), r, g, refl, refl, refl, omega (arith, size), found_element o i path ts u r (eqb-true (count ts) i (sym e)) h)
value_sought (step.Index i) {m = m} path false e (element ts o none) k f finds q =
    let (a, is, g) = q.leads (record { now = at_element ts o; marked = m }) f in
    let (u, x, at, d, split, val, small) = value_taken is in
    let size = count_snoc ts u in
    (at_comma u (in_array ts ∷ o), m, there at g, refl, refl, refl, omega (arith, size), same_element o i path ts u m (sym e) finds)
value_sought (step.Key key) {m = m} path true e (member ps u b o is_key) k f finds q =
    let (t, r, g, h) = q.leads (record { now = at_value (in_object ps u b ∷ o); marked = m }) f in
    let size = count_snoc_member ps u b t in
    (at_comma t (in_object ps u b ∷ o), r, g, refl, refl, refl, omega (arith, size), found_member o (step.Key key) key.now path ps u b t r (λ qs. refl) (ap (λ z. pointwise nat_eq z key.now) (sym is_key) ∙ sym e) h)
value_sought (step.Key key) {m = m} path false e (member ps u b o is_key) k f finds q =
    let (a, is, g) = q.leads (record { now = at_value (in_object ps u b ∷ o); marked = m }) f in
    let (t, x, at, d, split, val, small) = value_taken is in
    let size = count_snoc_member ps u b t in
    (at_comma t (in_object ps u b ∷ o), m, there at g, refl, refl, refl, omega (arith, size), same_member o (step.Key key) key.now path ps u b t m (λ qs. refl) (ap (λ z. pointwise nat_eq z key.now) (sym is_key) ∙ sym e) finds)
value_sought (step.Key key) path same e (element ts o none) k f finds q = absurd (cc)
value_sought (step.Index i) path same e (member ps u b o is_key) k f finds q = absurd (cc)

pub passed_on : {s : Step} {path : List Step} {first now mid new : Walked} {n : ℕ} (key : EntryKey) (same : Bool) → same ≡ is_sought s n (cow_bytes key.text) → Passed s path first now n → BeginsEntry now mid key → SeeksOrSkips same path mid new → Passed s path first new (n + 1)
passed_on {s = s} {path = path} {mid = mid} {new = new} key same e p entry q =
    let front = front_moves entry in
    record {
      text = passed_text path mid new same q ∙ front.text ∙ p.text;
      limit = passed_limit path mid new same q ∙ front.limit ∙ p.limit;
      leads = λ o f.
          let (a, m, g, i, frames, k, size, finds) = p.leads o f in
          let (b, is, h) = front.leads (record { now = a; marked = m }) g in
          let due : Fronted (cow_bytes key.text) (read_in a) o b = subst (λ z. Fronted (cow_bytes key.text) (read_in a) z b) frames (fronted is) in
          let (c, r, j, inner, outer, kind, more, there_now) = value_sought s path same (e ∙ ap (λ z. is_sought s z (cow_bytes key.text)) (sym size)) due k h finds q in
          (c, r, j, inner, outer, kind, more ∙ ap (λ z. z + 1) size, there_now);
    }

-- ---- the path as it was given

pub with_path : {path rest : List Step} {old new : Walked} (s : Step) → path ≡ s ∷ rest → Seeks (s ∷ rest) old new → Seeks path old new
with_path {old = old} {new = new} s e k = subst (λ p. Seeks p old new) (sym e) k

pub no_path : {path : List Step} {old new : Walked} → length path ≡ 0 → Seeks [] old new → Seeks path old new
no_path {path = []} e k = k
no_path {path = s ∷ path} e k = absurd (omega (arith, e))
