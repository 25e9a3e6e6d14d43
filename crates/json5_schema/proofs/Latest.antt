-- The members of which none later has the name, and those that were seen from the last one on.
use Rattle.std.proofs.Common.{◌≡◌, ◌∙◌, ◌<◌, ◌+◌, get_or, if◌then◌else◌, drop, length, zero, suc, arith, ℕ, Bool, true, false, nat_eq, not, List, [], ◌∷◌, ◌++◌, Option, Some, None, is_some, refl, sym, ap, String, string_bytes}
use Rattle.std.specs.Prelude.{cond, reverse}
use Rattle.std.specs.Borrow.{Bor}
use Rattle.std.specs.BTreeSet.{BTreeSet, contains_by}
use Rattle.std.specs.declared.alloc.Global.{Global}
use Rattle.std.proofs.lemmas.List.{reverse-append}
use Rattle.std.specs.Ordering.{is_eq, nat_cmp}
use Rattle.std.specs.Str.{chars, IsUtf8}
use Rattle.std.specs.Cmp.Lexicographic.{pointwise, slice_cmp, texts_ties}
use Rattle.json5_types.specs.declared.value.Value.{Value}
use Rattle.json5_types.specs.ValueMeanings.{Datum, Fields, field, value_of, fields_view}
use Rattle.json5_types.specs.ValueKinds.{fields_len}
use Rattle.json5_types.specs.ValueLookups.{or_else}
use Rattle.json5_types.proofs.LookedUp.{from_here}
use Rattle.json5_types.proofs.ValuesCompared.{bytes_or_characters}
use Rattle.json5_schema.specs.declared.members.Member.{Member}
use Rattle.json5_schema.specs.Conformance.{latest}
use Rattle.json5_numbers.specs.Sameness.{is_named}
use Rattle.json5_schema.specs.Views.{members_view}

-- the set has the names of these members
abbrev pub Sees : BTreeSet (Bor (List ℕ)) → Fields → Type 0
Sees s fs = (q : Bor (List ℕ)) → IsUtf8 q.now → contains_by (λ k. slice_cmp nat_cmp q.now k.now) s ≡ is_named (chars q.now) fs

named_more : (u q : List ℕ) (x : Datum) (fs : Fields) → is_named q (field u x fs) ≡ cond (pointwise nat_eq u q) true (is_named q fs)
named_more u q x fs = either _ (pointwise nat_eq u q) x
  where
    either : (a : Option Datum) (b : Bool) (x : Datum) → is_some (or_else a (if b then Some x else None)) ≡ cond b true (is_some a)
    either (Some y) true x = refl
    either (Some y) false x = refl
    either None true x = refl
    either None false x = refl

pub seen_more : (s n : BTreeSet (Bor (List ℕ))) (f : String Global × Value) (fs xs : List (String Global × Value)) (k : List ℕ) → xs ≡ f ∷ fs → k ≡ string_bytes f.0 → IsUtf8 k → Sees s (fields_view fs)
    → ((q : Bor (List ℕ)) → contains_by (λ y. slice_cmp nat_cmp q.now y.now) n ≡ cond (is_eq (slice_cmp nat_cmp k q.now)) true (contains_by (λ y. slice_cmp nat_cmp q.now y.now) s)) → Sees n (fields_view xs)
seen_more s n f fs xs k here e utf8 were added = λ q valid.
    let same : is_eq (slice_cmp nat_cmp k q.now) ≡ pointwise nat_eq (chars (string_bytes f.0)) (chars q.now) = sym (texts_ties k q.now) ∙ bytes_or_characters k q.now utf8 valid ∙ ap (λ b. pointwise nat_eq (chars b) (chars q.now)) e in
    added q ∙ ap (λ b. cond b true (contains_by (λ y. slice_cmp nat_cmp q.now y.now) s)) same ∙ ap (cond (pointwise nat_eq (chars (string_bytes f.0)) (chars q.now)) true) (were q valid)
    ∙ sym (named_more (chars (string_bytes f.0)) (chars q.now) (value_of f.1) (fields_view fs)) ∙ ap (λ gs. is_named (chars q.now) (fields_view gs)) (sym here)

-- it is the last with its name
pub one_kept : (found : List Member) (m : Member) (f : String Global × Value) (fs xs : List (String Global × Value)) → xs ≡ f ∷ fs → members_view (reverse found) ≡ latest (fields_view fs) → m.name.now ≡ string_bytes f.0 → m.value.now ≡ f.1
    → is_named (chars (string_bytes f.0)) (fields_view fs) ≡ false → members_view (reverse (found ++ m ∷ [])) ≡ latest (fields_view xs)
one_kept found m f fs xs here were name value none =
    let kept : latest (fields_view (f ∷ fs)) ≡ field (chars (string_bytes f.0)) (value_of f.1) (latest (fields_view fs)) = ap (λ b. if b then latest (fields_view fs) else field (chars (string_bytes f.0)) (value_of f.1) (latest (fields_view fs))) none in
    ap members_view (reverse-append found (m ∷ [])) ∙ ap (λ t. field (chars t) (value_of m.value.now) (members_view (reverse found))) name ∙ ap (λ y. field (chars (string_bytes f.0)) (value_of y) (members_view (reverse found))) value
    ∙ ap (field (chars (string_bytes f.0)) (value_of f.1)) were ∙ sym kept ∙ ap (λ gs. latest (fields_view gs)) (sym here)

-- a later one has its name
pub one_passed : (found : List Member) (f : String Global × Value) (fs xs : List (String Global × Value)) → xs ≡ f ∷ fs → members_view (reverse found) ≡ latest (fields_view fs)
    → is_named (chars (string_bytes f.0)) (fields_view fs) ≡ true → members_view (reverse found) ≡ latest (fields_view xs)
one_passed found f fs xs here were there =
    let passed : latest (fields_view (f ∷ fs)) ≡ latest (fields_view fs) = ap (λ b. if b then latest (fields_view fs) else field (chars (string_bytes f.0)) (value_of f.1) (latest (fields_view fs))) there in
    were ∙ sym passed ∙ ap (λ gs. latest (fields_view gs)) (sym here)

-- the same place has the same member
pub same_at : {A : Type 0} (xs : List A) (i : ℕ) (f g : A) → i < length xs → f ≡ get_or xs i f → g ≡ get_or xs i g → g ≡ f
same_at [] i f g h is also = absurd (omega (arith, h))
same_at (x ∷ xs) zero f g h is also = also ∙ sym is
same_at (x ∷ xs) (suc i) f g h is also = same_at xs i f g (omega (arith, h)) is also

-- ---- a turn: one more member, from the last one on

abbrev Named : Type 0
Named = String Global × Value

has_none : (b c d : Bool) → b ≡ not c → c ≡ d → b ≡ true → d ≡ false
has_none b true d e h k = absurd (cc)
has_none b false d e h k = sym h

has_one : (b c d : Bool) → b ≡ not c → c ≡ d → b ≡ false → d ≡ true
has_one b true d e h k = sym h
has_one b false d e h k = absurd (cc)

module _ (members : List Named) (i n : ℕ) (f : Named) (key : Bor (List ℕ)) (seen new : BTreeSet (Bor (List ℕ))) (found : List Member) (b : Bool) (next : i + 1 ≡ n) (within : i < length members) (is : f ≡ get_or members i f) (named : key.now ≡ string_bytes f.0)
    (utf8 : IsUtf8 key.now) (added : b ≡ not (contains_by (λ k. slice_cmp nat_cmp key.now k.now) seen))
    (updated : (q : Bor (List ℕ)) → contains_by (λ k. slice_cmp nat_cmp q.now k.now) new ≡ cond (is_eq (slice_cmp nat_cmp key.now q.now)) true (contains_by (λ k. slice_cmp nat_cmp q.now k.now) seen))
    (were : members_view (reverse found) ≡ latest (fields_view (drop n members))) (saw : Sees seen (fields_view (drop n members))) where
  here : drop i members ≡ f ∷ drop n members
  here = from_here members i f within is ∙ ap (λ m. f ∷ drop m members) next

  before : contains_by (λ k. slice_cmp nat_cmp key.now k.now) seen ≡ is_named (chars (string_bytes f.0)) (fields_view (drop n members))
  before = saw key utf8 ∙ ap (λ t. is_named (chars t) (fields_view (drop n members))) named

  sees : Sees new (fields_view (drop i members))
  sees = seen_more seen new f (drop n members) (drop i members) key.now here named utf8 saw updated

  pub kept_step : (more : List Member) (m : Member) → more ≡ found ++ m ∷ [] → b ≡ true → m.name.now ≡ string_bytes f.0 → m.value.now ≡ f.1 → (members_view (reverse more) ≡ latest (fields_view (drop i members))) × Sees new (fields_view (drop i members))
  kept_step more m pushed is_new name value = (ap (λ ms. members_view (reverse ms)) pushed ∙ one_kept found m f (drop n members) (drop i members) here were name value (has_none b _ _ added before is_new), sees)

  pub passed_step : b ≡ false → (members_view (reverse found) ≡ latest (fields_view (drop i members))) × Sees new (fields_view (drop i members))
  passed_step is_old = (one_passed found f (drop n members) (drop i members) here were (has_one b _ _ added before is_old), sees)

pub members_counted : (ms : List Member) → fields_len (members_view ms) ≡ length ms
members_counted [] = refl
members_counted (m ∷ ms) = ap suc (members_counted ms)
