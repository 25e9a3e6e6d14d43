-- An object whose members were sorted.
use Rattle.std.proofs.Common.{◌≡◌, ℕ, suc, ◌+◌, Bool, true, false, List, [], ◌∷◌, ◌++◌, length, map, refl, ap, sym, ◌∙◌, subst, arith}
use Rattle.std.proofs.Math.ListN.{get_or-map, get_or}
use Rattle.std.specs.Prelude.{cond, filter, not, ◌&&◌}
use Rattle.std.specs.List.Sorted.{IsSortedByKey, IsStableByKey, ties}
use Rattle.std.specs.Ordering.{is_lt}
use Rattle.std.specs.Str.{chars}
use Rattle.json5_grammar.specs.Language.Trees.{Tree}
use Rattle.json5_grammar.specs.Language.Values.{Val}
use Rattle.json5_read.specs.declared.brackets.BracketKind.TheVariants as kind
use Rattle.json5_types.specs.Cows.{cow_bytes}
use Rattle.json5_types.specs.declared.cow_str.CowStr.TheVariants as cow
use Rattle.json5_walk.specs.Moves.{EndsEntries}
use Rattle.json5_walk.specs.Walks.{Walked, Trail, IsAt, Moved, Ends}
use Rattle.json5_edit.specs.Changes.{ChangesBy}
use Rattle.json5_edit.specs.Comparing.{With}
use Rattle.json5_edit.specs.Entries.{entries, empty_of, Holds, TakesEntry}
use Rattle.json5_edit.specs.Sorted.{HasMembersSorted, AreInOrder, ListsMembers, PassesAll, Spell, entry_key, key_of, text_cmp}
use Rattle.json5_edit.specs.declared.entries.Entry.{Entry}
use Rattle.json5_edit.proofs.Compared.{from_empty, no_more_with, passes, same_value, with_more}
use Rattle.json5_edit.proofs.EntriesPassed.{closes, is_document}

-- ---- entries that were passed

spelled_more : (es : List Entry) (ps : List (List ℕ × Tree)) (e : Entry) (t : Tree) → Spell es ps → Val (chars e.value.now) t → Spell (es ++ (e ∷ [])) (ps ++ ((cow_bytes e.key, t) ∷ []))
spelled_more [] [] e t s v = (refl, v, tt)
spelled_more [] (p ∷ ps) e t s v = absurd s
spelled_more (f ∷ es) [] e t s v = absurd s
spelled_more (f ∷ es) (p ∷ ps) e t (k, w, s) v = (k, w, spelled_more es ps e t s v)

-- the walk passed these entries
pub record PassesSome (es : List Entry) (v w : Walked) : Type 0 where
  pub passed : (x : List ℕ) (t : Tree) → Holds x t v → (ps : List (List ℕ × Tree)) × (u : Tree) × With t ps u × Holds x u w × Spell es ps

pub some_start : (v : Walked) → PassesSome [] v v
some_start v = record { passed = λ x t h. ([], t, no_more_with t, h, tt) }

pub some_go_on : {es : List Entry} {v w u : Walked} (e : Entry) → PassesSome es v w → Moved (TakesEntry (cow_bytes e.key) e.value.now) w u → PassesSome (es ++ (e ∷ [])) v u
some_go_on {es = es} e p moved = record {
  passed = λ x t h.
      let (ps, all, joins, holds, s) = p.passed x t h in
      let q = passes (cow_bytes e.key) e.value.now holds moved in
      (ps ++ ((cow_bytes e.key, q.tree) ∷ []), q.all, with_more ps ((cow_bytes e.key, q.tree) ∷ []) joins q.one, q.holds, spelled_more es ps e q.tree s q.is_value);
}

-- the same where another entry has the key and the text
pub some_go_on_so : {es : List Entry} {v w u : Walked} (e f : Entry) → PassesSome es v w → cow_bytes e.key ≡ cow_bytes f.key → e.value.now ≡ f.value.now → Moved (TakesEntry (cow_bytes f.key) f.value.now) w u → PassesSome (es ++ (e ∷ [])) v u
some_go_on_so {w = w} {u = u} e f p key value moved = some_go_on e p (subst (λ k. Moved (TakesEntry k e.value.now) w u) (sym key) (subst (λ z. Moved (TakesEntry (cow_bytes f.key) z) w u) (sym value) moved))

pub all_passed : {es : List Entry} {v w u : Walked} → PassesSome es v w → Moved EndsEntries w u → PassesAll es v u
all_passed p moved = λ x t h.
    let (ps, all, joins, holds, s) = p.passed x t h in
    (ps, all, joins, closes holds moved, s)

pub lists_members : {text : List ℕ} {v w : Walked} (es : List Entry) → Holds text (empty_of kind.Object) v → PassesAll es v w → ((t : Trail) → IsAt w t → Ends w t) → ListsMembers text es
lists_members {text = text} es h all ends =
    let (ps, t, joins, closed, s) = all text (empty_of kind.Object) h in
    (t, is_document closed ends, joins.same_kind, subst (λ z. Spell es z) (sym (from_empty kind.Object ps joins)) s)

-- ---- what entries spell

one_spelled : (es : List Entry) (ps qs : List (List ℕ × Tree)) → Spell es ps → Spell es qs → ps ≡ qs
one_spelled [] [] [] s r = refl
one_spelled [] (p ∷ ps) qs s r = absurd s
one_spelled [] [] (q ∷ qs) s r = absurd r
one_spelled (e ∷ es) [] qs s r = absurd s
one_spelled (e ∷ es) (p ∷ ps) [] s r = absurd r
one_spelled (e ∷ es) ((a, t) ∷ ps) ((b, u) ∷ qs) (k, v, s) (l, w, r) =
    let key : a ≡ b = sym k ∙ l in
    let value : t ≡ u = same_value e.value.now e.value.now t u refl v w in
    ap (λ z. (z, t) ∷ ps) key ∙ ap (λ z. (b, z) ∷ ps) value ∙ ap (λ z. (b, u) ∷ z) (one_spelled es ps qs s r)

spelled_keys : (es : List Entry) (ps : List (List ℕ × Tree)) → Spell es ps → map entry_key es ≡ map key_of ps
spelled_keys [] [] s = refl
spelled_keys [] (p ∷ ps) s = absurd s
spelled_keys (e ∷ es) [] s = absurd s
spelled_keys (e ∷ es) (p ∷ ps) (k, v, s) = ap (λ z. z ∷ map entry_key es) k ∙ ap (λ z. p.0 ∷ z) (spelled_keys es ps s)

spelled_length : (es : List Entry) (ps : List (List ℕ × Tree)) → Spell es ps → length es ≡ length ps
spelled_length [] [] s = refl
spelled_length [] (p ∷ ps) s = absurd s
spelled_length (e ∷ es) [] s = absurd s
spelled_length (e ∷ es) (p ∷ ps) (k, v, s) = ap suc (spelled_length es ps s)

-- an entry with this key
with_key : List ℕ → Entry
with_key k = record { key = cow.Borrowed (record { ref_ptr = (0, 0); now = k }); value = record { ref_ptr = (0, 0); now = [] }; from = 0; start = 0; end = 0 }

kept_or_not : (b c : Bool) (e : Entry) (p : List ℕ × Tree) (es : List Entry) (ps : List (List ℕ × Tree)) → b ≡ c → cow_bytes e.key ≡ p.0 → Val (chars e.value.now) p.1 → Spell es ps → Spell (cond b (e ∷ es) es) (cond c (p ∷ ps) ps)
kept_or_not true true e p es ps same k v s = (k, v, s)
kept_or_not false false e p es ps same k v s = s
kept_or_not true false e p es ps same k v s = absurd (cc)
kept_or_not false true e p es ps same k v s = absurd (cc)

filtered : (f : Entry → Bool) (g : List ℕ × Tree → Bool) → ((e : Entry) (p : List ℕ × Tree) → cow_bytes e.key ≡ p.0 → f e ≡ g p) → (es : List Entry) (ps : List (List ℕ × Tree)) → Spell es ps → Spell (filter f es) (filter g ps)
filtered f g agree [] [] s = tt
filtered f g agree [] (p ∷ ps) s = absurd s
filtered f g agree (e ∷ es) [] s = absurd s
filtered f g agree (e ∷ es) (p ∷ ps) (k, v, s) = kept_or_not (f e) (g p) e p (filter f es) (filter g ps) (agree e p k) k v (filtered f g agree es ps s)

stable : (es fs : List Entry) (ps qs : List (List ℕ × Tree)) → Spell es ps → Spell fs qs → IsStableByKey entry_key text_cmp es fs → IsStableByKey key_of text_cmp ps qs
unfolding with_key
stable es fs ps qs s r same = λ x.
    let y = with_key x.0 in
    let f : Entry → Bool = ties (λ a b. is_lt (text_cmp (entry_key a) (entry_key b))) y in
    let g : List ℕ × Tree → Bool = ties (λ a b. is_lt (text_cmp (key_of a) (key_of b))) x in
    let agree : (e : Entry) (p : List ℕ × Tree) → cow_bytes e.key ≡ p.0 → f e ≡ g p = λ e p k. ap (λ z. not (is_lt (text_cmp x.0 z)) && not (is_lt (text_cmp z x.0))) k in
    one_spelled (filter f es) (filter g qs) (filter g ps) (subst (λ z. Spell z (filter g qs)) (same y) (filtered f g agree fs qs r)) (filtered f g agree es ps s)

ascending : (fs : List Entry) (qs : List (List ℕ × Tree)) → Spell fs qs → IsSortedByKey entry_key text_cmp fs → IsSortedByKey key_of text_cmp qs
unfolding with_key
ascending fs qs r sorted = λ k d low high.
    let y = with_key d.0 in
    let at : (i : ℕ) → key_of (get_or qs i d) ≡ entry_key (get_or fs i y) = λ i. sym (get_or-map key_of qs i d) ∙ ap (λ z. get_or z i d.0) (sym (spelled_keys fs qs r)) ∙ get_or-map entry_key fs i y in
    let size = spelled_length fs qs r in
    ap (λ z. is_lt (text_cmp z (key_of (get_or qs k d)))) (at (k + 1)) ∙ ap (λ z. is_lt (text_cmp (entry_key (get_or fs (k + 1) y)) z)) (at k)
    ∙ sorted k y low (omega (arith, size, high))

-- ---- whole objects

pub members_sorted : (x y : List ℕ) (es fs : List Entry) → ListsMembers x es → AreInOrder es fs → ListsMembers y fs → ChangesBy HasMembersSorted x y
members_sorted x y es fs (t, d, k, s) (sorted, same) (u, e, l, r) = (
  t,
  u,
  d,
  e,
  record { was_kind = k; kind = l; sorted = ascending fs (entries u) r sorted; same = stable es fs (entries t) (entries u) s r same },
)
