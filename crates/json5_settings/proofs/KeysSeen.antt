-- Keys that were seen.
use Rattle.std.proofs.Common.{◌≡◌, ◌∙◌, ℕ, Bool, true, false, List, [], ◌∷◌, ◌++◌, refl, ap, sym, nat_eq, ◌||◌, not}
use Rattle.std.specs.Prelude.{cond}
use Rattle.std.specs.BTreeSet.{BTreeSet, IsEmpty, contains_by}
use Rattle.std.specs.Cmp.Lexicographic.{pointwise, slice_cmp, texts_ties}
use Rattle.std.specs.List.{list_any}
use Rattle.std.specs.Ordering.{is_eq, nat_cmp}
use Rattle.json5_types.specs.Cows.{cow_bytes}
use Rattle.json5_types.specs.declared.cow_str.CowStr.{CowStr}
use Rattle.json5_settings.specs.Warnings.{HasKeys, is_among}

later : (other same before after : Bool) → cond same true before ≡ after → cond same true (other || before) ≡ (other || after)
later true true before after e = refl
later true false before after e = refl
later false same before after e = e

last_among : (q key : List ℕ) (known : List (List ℕ)) → cond (pointwise nat_eq key q) true (is_among q known) ≡ is_among q (known ++ key ∷ [])
last_among q key [] = only (pointwise nat_eq key q)
  where
    only : (same : Bool) → cond same true false ≡ (same || false)
    only true = refl
    only false = refl
last_among q key (k ∷ ks) = later (pointwise nat_eq k q) (pointwise nat_eq key q) (is_among q ks) (is_among q (ks ++ key ∷ [])) (last_among q key ks)

-- the set that got this key has it, too
pub key_seen : (s n : BTreeSet CowStr) (key : CowStr)
    → ((q : CowStr) → contains_by (λ k. slice_cmp nat_cmp (cow_bytes q) (cow_bytes k)) n ≡ cond (is_eq (slice_cmp nat_cmp (cow_bytes key) (cow_bytes q))) true (contains_by (λ k. slice_cmp nat_cmp (cow_bytes q) (cow_bytes k)) s))
    → (known : List (List ℕ)) → HasKeys s known → HasKeys n (known ++ cow_bytes key ∷ [])
key_seen s n key added known were = λ q.
    let has = λ (b : Bool). cond b true (contains_by (λ (k : CowStr). slice_cmp nat_cmp (cow_bytes q) (cow_bytes k)) s) in
    added q ∙ ap has (sym (texts_ties (cow_bytes key) (cow_bytes q))) ∙ ap (cond (pointwise nat_eq (cow_bytes key) (cow_bytes q)) true) (were q) ∙ last_among (cow_bytes q) (cow_bytes key) known

-- a key that isn't new is among them
pub key_told : (s : BTreeSet CowStr) (key : CowStr) (is_new : Bool) (known : List (List ℕ)) → is_new ≡ not (contains_by (λ k. slice_cmp nat_cmp (cow_bytes key) (cow_bytes k)) s) → HasKeys s known → not is_new ≡ is_among (cow_bytes key) known
key_told s key is_new known e were = ap not e ∙ twice (contains_by (λ k. slice_cmp nat_cmp (cow_bytes key) (cow_bytes k)) s) ∙ were key
  where
    twice : (b : Bool) → not (not b) ≡ b
    twice true = refl
    twice false = refl

-- a set without keys has none
pub has_none : (s : BTreeSet CowStr) → IsEmpty s → HasKeys s []
has_none s none = λ q. ap (list_any (λ (k : CowStr). is_eq (slice_cmp nat_cmp (cow_bytes q) (cow_bytes k)))) none
