-- Where members go that are merged, and that this stays so while they are.
use Rattle.std.proofs.Common.{◌≡◌, ◌∙◌, ◌<◌, ◌≤◌, ◌+◌, take-suc, ℕ, zero, suc, Bool, true, false, nat_eq, not, List, [], ◌∷◌, ◌++◌, length, take, drop, get_or, set, Result, Ok, Err, Option, Some, None, is_some, refl, sym, ap, subst, arith, String, string_bytes}
use Rattle.std.specs.Prelude.{⊤, unwrap_or, OnOk, cond, reverse, slice_index_or, if◌then◌else◌, IsSome, ◌↔◌, option_to_list}
use Rattle.std.specs.declared.alloc.Global.{Global}
use Rattle.std.proofs.lemmas.List.{reverse-append, length-take-le, length-reverse}
use Rattle.std.proofs.lemmas.Bool.Decides.{nat_tests}
use Rattle.std.specs.Ordering.{is_eq, nat_cmp}
use Rattle.std.specs.Str.{chars, IsUtf8}
use Rattle.std.specs.Cmp.Lexicographic.{pointwise, bytes_decides, slice_cmp, texts_ties}
use Rattle.json5_types.specs.declared.value.Value.{Value}
use Rattle.json5_types.specs.declared.value_merge.Spot.{Spot}
use Rattle.json5_types.specs.declared.value_merge.Spot.TheVariants as spot
use Rattle.json5_types.specs.ValueMeanings.{Datum, Fields, no_field, field, value_of, fields_view}
use Rattle.json5_types.specs.ValueLookups.{or_else, last_named}
use Rattle.json5_types.specs.ValueChanges.{has_key, merged, put_named, fields_merged}
use Rattle.json5_types.specs.MemberPlaces.{IsLastNamed}
use Rattle.json5_types.specs.MemberSpots.{keys_of, keys_in, later_or_here, last_index, spot_unless, is_there, spot_at, spots_of, IsSpot, spot_merged, MergesAt}
use Rattle.json5_types.proofs.LookedUp.{from_here}
use Rattle.json5_types.proofs.MembersMerged.{merged_at, merged_last}
use Rattle.json5_types.proofs.ValuesCompared.{bytes_or_characters}

abbrev Member : Type 0
Member = String Global × Value

-- ---- the last place of a key

-- one more key
pub one_more : (q k : List ℕ) (ks : List (List ℕ)) → last_index q (ks ++ k ∷ []) ≡ cond (pointwise nat_eq k q) (Some (length ks)) (last_index q ks)
one_more q k [] = here (pointwise nat_eq k q)
  where
    here : (b : Bool) → later_or_here None b ≡ cond b (Some 0) None
    here true = refl
    here false = refl
one_more q k (x ∷ xs) = ap (λ o. later_or_here o (pointwise nat_eq x q)) (one_more q k xs) ∙ later (pointwise nat_eq k q) (pointwise nat_eq x q) (length xs) (last_index q xs)
  where
    later : (b c : Bool) (n : ℕ) (o : Option ℕ) → later_or_here (cond b (Some n) o) c ≡ cond b (Some (suc n)) (later_or_here o c)
    later true c n o = refl
    later false c n o = refl

found : (q : List ℕ) (fs : Fields) → is_some (last_index q (keys_of fs)) ≡ has_key q fs
found q no_field = refl
found q (field u x fs) = either (last_index q (keys_of fs)) (last_named q fs) (pointwise nat_eq u q) x (found q fs)
  where
    either : (o : Option ℕ) (a : Option Datum) (b : Bool) (x : Datum) → is_some o ≡ is_some a → is_some (later_or_here o b) ≡ is_some (or_else a (if b then Some x else None))
    either (Some i) (Some y) b x h = refl
    either None None true x h = refl
    either None None false x h = refl
    either (Some i) None b x h = absurd (cc)
    either None (Some y) b x h = absurd (cc)

none_of : {A : Type 0} (o : Option A) → is_some o ≡ false → o ≡ None
none_of None h = refl
none_of (Some a) h = absurd (cc)

pub not_named : (q : List ℕ) (fs : Fields) → last_index q (keys_of fs) ≡ None → last_named q fs ≡ None
not_named q fs h = none_of (last_named q fs) (sym (found q fs) ∙ ap is_some h)

pub last_found : (key : List ℕ) (fs : List Member) (i : ℕ) → last_index key (keys_in fs) ≡ Some i → IsLastNamed key fs i
last_found key [] i h = absurd (cc)
last_found key (f ∷ fs) i h = go (λ j e. last_found key fs j e) (last_index key (keys_in fs)) refl (pointwise nat_eq (chars (string_bytes f.0)) key) refl i h
  where
    go : ((j : ℕ) → last_index key (keys_in fs) ≡ Some j → IsLastNamed key fs j) → (o : Option ℕ) → last_index key (keys_in fs) ≡ o → (b : Bool) → pointwise nat_eq (chars (string_bytes f.0)) key ≡ b → (i : ℕ) → later_or_here o b ≡ Some i → IsLastNamed key (f ∷ fs) i
    go further (Some j) e b here (suc i) h =
        let later : IsLastNamed key fs j = further j e in
        let same : j ≡ i = cc in
        subst (λ n. IsLastNamed key (f ∷ fs) (suc n)) same (record { within = omega (arith, later.within); named = later.named; last = later.last })
    go further (Some j) e b here zero h = absurd (cc)
    go further None e true here zero h = record {
      within = omega arith;
      named = λ g is. subst (λ m. pointwise nat_eq (chars (string_bytes m.0)) key ≡ true) (sym is) here;
      last = not_named key (fields_view fs) e;
    }
    go further None e true here (suc i) h = absurd (cc)
    go further None e false here i h = absurd (cc)

-- a member's key is found
present : (key : List ℕ) (fs : List Member) (i : ℕ) (f : Member) → i < length fs → f ≡ get_or fs i f → chars (string_bytes f.0) ≡ key → is_some (last_index key (keys_in fs)) ≡ true
present key [] i f h is e = absurd (omega (arith, h))
present key (g ∷ gs) zero f h is e =
    let here : pointwise nat_eq (chars (string_bytes g.0)) key ≡ true = (bytes_decides (chars (string_bytes g.0)) key).1 (ap (λ m. chars (string_bytes m.0)) (sym is) ∙ e) in
    some_here (last_index key (keys_in gs)) (pointwise nat_eq (chars (string_bytes g.0)) key) here
  where
    some_here : (o : Option ℕ) (b : Bool) → b ≡ true → is_some (later_or_here o b) ≡ true
    some_here (Some i) b h = refl
    some_here None true h = refl
    some_here None false h = absurd (cc)
present key (g ∷ gs) (suc i) f h is e = some_later (last_index key (keys_in gs)) (pointwise nat_eq (chars (string_bytes g.0)) key) (present key gs i f (omega (arith, h)) is e)
  where
    some_later : (o : Option ℕ) (b : Bool) → is_some o ≡ true → is_some (later_or_here o b) ≡ true
    some_later (Some i) b h = refl
    some_later None b h = absurd (cc)

apart : (i : ℕ) → nat_eq 0 (suc i) ≡ false
apart i = grind (arith, nat_tests)

both_more : (i j : ℕ) → nat_eq (suc i) (suc j) ≡ nat_eq i j
both_more i j = grind (arith, nat_tests)

-- it is the last with its key exactly if none after it has the key
pub last_there : (key : List ℕ) (fs : List Member) (i : ℕ) (f : Member) → i < length fs → f ≡ get_or fs i f → chars (string_bytes f.0) ≡ key → not (is_there i (last_index key (keys_in fs))) ≡ is_some (last_index key (keys_in (drop (suc i) fs)))
last_there key [] i f h is e = absurd (omega (arith, h))
last_there key (g ∷ gs) zero f h is e =
    let here : pointwise nat_eq (chars (string_bytes g.0)) key ≡ true = (bytes_decides (chars (string_bytes g.0)) key).1 (ap (λ m. chars (string_bytes m.0)) (sym is) ∙ e) in
    rw here (at_first (last_index key (keys_in gs)))
  where
    at_first : (o : Option ℕ) → not (is_there zero (later_or_here o true)) ≡ is_some o
    at_first (Some i) = ap not (apart i)
    at_first None = refl
last_there key (g ∷ gs) (suc i) f h is e =
    further (last_index key (keys_in gs)) (pointwise nat_eq (chars (string_bytes g.0)) key) (present key gs i f (omega (arith, h)) is e) ∙ last_there key gs i f (omega (arith, h)) is e
  where
    further : (o : Option ℕ) (b : Bool) → is_some o ≡ true → not (is_there (suc i) (later_or_here o b)) ≡ not (is_there i o)
    further (Some j) b h = ap not (both_more i j)
    further None b h = absurd (cc)

-- ---- the places and the spots, one more at a time

keys_then : (fs : List Member) (f : Member) → keys_in (fs ++ f ∷ []) ≡ keys_in fs ++ chars (string_bytes f.0) ∷ []
keys_then [] f = refl
keys_then (g ∷ gs) f = ap (λ ks. chars (string_bytes g.0) ∷ ks) (keys_then gs f)

keys_length : (fs : List Member) → length (keys_in fs) ≡ length fs
keys_length [] = refl
keys_length (g ∷ gs) = ap suc (keys_length gs)

pub place_added : (fs : List Member) (i n : ℕ) (f : Member) (k q : List ℕ) (o r : Option ℕ) → suc i ≡ n → i < length fs → f ≡ get_or fs i f → k ≡ string_bytes f.0 → IsUtf8 k → IsUtf8 q → r ≡ cond (is_eq (slice_cmp nat_cmp k q)) (Some i) o → o ≡ last_index (chars q) (keys_in (take i fs)) → r ≡ last_index (chars q) (keys_in (take n fs))
place_added fs i n f k q o r next h is e hk hq added was =
    let counted : length (keys_in (take i fs)) ≡ i = keys_length (take i fs) ∙ length-take-le i fs (omega (arith, h)) in
    let same : is_eq (slice_cmp nat_cmp k q) ≡ pointwise nat_eq (chars (string_bytes f.0)) (chars q) = sym (texts_ties k q) ∙ bytes_or_characters k q hk hq ∙ ap (λ b. pointwise nat_eq (chars b) (chars q)) e in
    let more : keys_in (take (suc i) fs) ≡ keys_in (take i fs) ++ chars (string_bytes f.0) ∷ [] = ap keys_in (take-suc fs i f h) ∙ keys_then (take i fs) (get_or fs i f) ∙ ap (λ g. keys_in (take i fs) ++ chars (string_bytes g.0) ∷ []) (sym is) in
    added ∙ ap (λ b. cond b (Some i) o) same ∙ ap (cond (pointwise nat_eq (chars (string_bytes f.0)) (chars q)) (Some i)) was ∙ ap (λ n. cond (pointwise nat_eq (chars (string_bytes f.0)) (chars q)) (Some n) (last_index (chars q) (keys_in (take i fs)))) (sym counted)
    ∙ sym (one_more (chars q) (chars (string_bytes f.0)) (keys_in (take i fs))) ∙ ap (last_index (chars q)) (sym more) ∙ ap (λ m. last_index (chars q) (keys_in (take m fs))) next

pub spot_added : (others fields : List Member) (i n : ℕ) (f : Member) (key : List ℕ) (spots : List Spot) (s : Spot) → i + 1 ≡ n → i < length others → f ≡ get_or others i f → chars (string_bytes f.0) ≡ key → s ≡ spot_at i (last_index key (keys_in others)) (last_index key (keys_in fields))
    → reverse spots ≡ spots_of (keys_in (drop n others)) (keys_in fields) → reverse (spots ++ s ∷ []) ≡ spots_of (keys_in (drop i others)) (keys_in fields)
spot_added others fields i n f key spots s next h is e spotted were =
    let one : i + 1 ≡ suc i = omega arith in
    let later = keys_in (drop (suc i) others) in
    let here : drop i others ≡ f ∷ drop (suc i) others = from_here others i f h is ∙ ap (λ m. f ∷ drop m others) one in
    let first : s ≡ spot_unless (is_some (last_index key later)) (last_index key (keys_in fields)) = spotted ∙ ap (λ b. spot_unless b (last_index key (keys_in fields))) (last_there key others i f h is e) in
    let rest : reverse spots ≡ spots_of later (keys_in fields) = were ∙ ap (λ m. spots_of (keys_in (drop m others)) (keys_in fields)) (sym next ∙ one) in
    reverse-append spots (s ∷ []) ∙ ap (λ t. t ∷ reverse spots) first ∙ ap (λ ss. spot_unless (is_some (last_index key later)) (last_index key (keys_in fields)) ∷ ss) rest
    ∙ ap (λ k. spots_of (k ∷ later) (keys_in fields)) (sym e) ∙ ap (λ fs. spots_of (keys_in fs) (keys_in fields)) (sym here)

-- ---- the keys of members that are merged

keys_stay : (key : List ℕ) (y : Datum) (fs : Fields) → has_key key fs ≡ true → keys_of (put_named key y fs) ≡ keys_of fs
keys_stay key y no_field h = absurd (cc)
keys_stay key y (field u x fs) h = go (λ e. keys_stay key y fs e) (has_key key fs) refl (pointwise nat_eq u key) refl
  where
    go : (has_key key fs ≡ true → keys_of (put_named key y fs) ≡ keys_of fs) → (p : Bool) → has_key key fs ≡ p → (b : Bool) → pointwise nat_eq u key ≡ b → keys_of (put_named key y (field u x fs)) ≡ keys_of (field u x fs)
    go further true e b i = rw e (ap (λ ks. u ∷ ks) (further e))
    go further false e true i = rw (e, i) (ap (λ k. k ∷ keys_of fs) (sym ((bytes_decides u key).0 i)))
    go further false e false i = let k : is_some (or_else (last_named key fs) (if pointwise nat_eq u key then Some x else None)) ≡ true = h in let n = rw (none_of (last_named key fs) e, i) at k in absurd (cc)

keys_grow : (key : List ℕ) (y : Datum) (fs : Fields) → has_key key fs ≡ false → keys_of (put_named key y fs) ≡ keys_of fs ++ key ∷ []
keys_grow key y no_field h = refl
keys_grow key y (field u x fs) h =
    let neither = neither_of (last_named key fs) (pointwise nat_eq u key) x h in
    rw (neither.0, neither.1) (ap (λ ks. u ∷ ks) (keys_grow key y fs neither.0))
  where
    neither_of : (a : Option Datum) (b : Bool) (x : Datum) → is_some (or_else a (if b then Some x else None)) ≡ false → (is_some a ≡ false) × (b ≡ false)
    neither_of (Some y) b x h = absurd (cc)
    neither_of None true x h = absurd (cc)
    neither_of None false x h = (refl, refl)

-- another key among ours changes no spot
still : (key : List ℕ) (later ours : List (List ℕ)) → is_some (last_index key later) ≡ false → spots_of later (ours ++ key ∷ []) ≡ spots_of later ours
still key [] ours h = refl
still key (q ∷ qs) ours h =
    let neither = neither_of (last_index key qs) (pointwise nat_eq q key) h in
    let other : last_index q (ours ++ key ∷ []) ≡ last_index q ours = one_more q key ours ∙ ap (λ b. cond b (Some (length ours)) (last_index q ours)) (turned q key neither.1) in
    rw (other, still key qs ours neither.0) refl
  where
    neither_of : (o : Option ℕ) (b : Bool) → is_some (later_or_here o b) ≡ false → (is_some o ≡ false) × (b ≡ false)
    neither_of (Some i) b h = absurd (cc)
    neither_of None true h = absurd (cc)
    neither_of None false h = (refl, refl)

    turned : (a b : List ℕ) → pointwise nat_eq a b ≡ false → pointwise nat_eq b a ≡ false
    turned a b h = go (pointwise nat_eq b a) refl
      where
        go : (p : Bool) → pointwise nat_eq b a ≡ p → p ≡ false
        go false e = refl
        go true e = let k = (bytes_decides a b).1 (sym ((bytes_decides b a).0 e)) in absurd (cc)

is_spot : (key : List ℕ) (b : Bool) (fs : Fields) (s : Spot) → s ≡ spot_unless b (last_index key (keys_of fs)) → IsSpot key fs s
is_spot key b fs s e = subst (IsSpot key fs) (sym e) (go b (last_index key (keys_of fs)) refl)
  where
    go : (b : Bool) (o : Option ℕ) → last_index key (keys_of fs) ≡ o → IsSpot key fs (spot_unless b o)
    go true o h = tt
    go false (Some i) h = h
    go false None h = h

-- the spots of later members, where one was merged at its spot
kept_spots : (key : List ℕ) (y : Datum) (fs : Fields) (later : List (List ℕ)) (s : Spot) → s ≡ spot_unless (is_some (last_index key later)) (last_index key (keys_of fs)) → spots_of later (keys_of (spot_merged s key y fs)) ≡ spots_of later (keys_of fs)
kept_spots key y fs later s e = subst (λ s. spots_of later (keys_of (spot_merged s key y fs)) ≡ spots_of later (keys_of fs)) (sym e) (go (is_some (last_index key later)) refl (last_index key (keys_of fs)) refl)
  where
    go : (b : Bool) → is_some (last_index key later) ≡ b → (o : Option ℕ) → last_index key (keys_of fs) ≡ o → spots_of later (keys_of (spot_merged (spot_unless b o) key y fs)) ≡ spots_of later (keys_of fs)
    go true h o i = refl
    go false h (Some j) i = ap (spots_of later) (keys_stay key _ fs (sym (found key fs) ∙ ap is_some i))
    go false h None i = ap (spots_of later) (keys_grow key _ fs (sym (found key fs) ∙ ap is_some i)) ∙ still key later (keys_of fs) h

-- what is merged of a member, where it is the next
merged_next : (key : List ℕ) (y : Datum) (fs gs : Fields) (s : Spot) → s ≡ spot_unless (is_some (last_index key (keys_of gs))) (last_index key (keys_of fs)) → fields_merged (spot_merged s key y fs) gs ≡ fields_merged fs (field key y gs)
merged_next key y fs gs s e = subst (λ s. fields_merged (spot_merged s key y fs) gs ≡ fields_merged fs (field key y gs)) (sym e) (go (is_some (last_index key (keys_of gs))) refl (last_index key (keys_of fs)))
  where
    go : (b : Bool) → is_some (last_index key (keys_of gs)) ≡ b → (o : Option ℕ) → fields_merged (spot_merged (spot_unless b o) key y fs) gs ≡ fields_merged fs (field key y gs)
    go true h o = let has = sym (found key gs) ∙ h in rw has refl
    go false h (Some j) = let has = sym (found key gs) ∙ h in rw has refl
    go false h None = let has = sym (found key gs) ∙ h in rw has refl

-- ---- a member merged at its spot

pub spot_there : {E : Type 0} (key : List ℕ) (fs : List Member) (i : ℕ) (s : Spot) (between f : Member) (v : Value) (y : Datum) (r : Result ⊤ E) → s ≡ spot.Known i → f ≡ slice_index_or fs i f → OnOk r (value_of v ≡ merged (value_of f.1) y)
    → OnOk r (MergesAt s key y fs (set (set fs i between) i (f.0, v)))
spot_there key fs i s between f v y (Ok x) at is e = λ h. let known = rw at at h in rw at (merged_at key fs i between f v y (last_found key fs i known) is e)
spot_there key fs i s between f v y (Err x) at is e = tt

pub spot_new : (key : List ℕ) (k : String Global) (v : Value) (fs gs : List Member) (s : Spot) → s ≡ spot.New → chars (string_bytes k) ≡ key → gs ≡ fs ++ (k, v) ∷ [] → MergesAt s key (value_of v) fs gs
spot_new key k v fs gs s at e is = λ h. let new = rw at at h in rw at (ap fields_view is ∙ merged_last key k v fs (not_named key (fields_view fs) new) e)

-- elsewhere there is nothing to be done
pub spot_outside : (key : List ℕ) (y : Datum) (fs : List Member) (i : ℕ) (s : Spot) → s ≡ spot.Known i → length fs ≤ i → MergesAt s key y fs fs
spot_outside key y fs i s at h = λ k. let known = rw at at k in absurd (omega (arith, h, (last_found key fs i known).within))

-- ---- a turn: the last of the rest is the next

next_keys : (rest new : List Member) (f : Member) → rest ≡ new ++ f ∷ [] → fields_view (reverse rest) ≡ field (chars (string_bytes f.0)) (value_of f.1) (fields_view (reverse new))
next_keys rest new f e = ap (λ fs. fields_view (reverse fs)) e ∙ ap fields_view (reverse-append new (f ∷ []))

-- the last spot is the next member's, and those before it are those of the rest
next_spot : (rest new : List Member) (f : Member) (spots left : List Spot) (s : Spot) (fs : Fields) → rest ≡ new ++ f ∷ [] → spots ≡ left ++ s ∷ [] → reverse spots ≡ spots_of (keys_in (reverse rest)) (keys_of fs)
    → (s ≡ spot_unless (is_some (last_index (chars (string_bytes f.0)) (keys_in (reverse new)))) (last_index (chars (string_bytes f.0)) (keys_of fs))) × (reverse left ≡ spots_of (keys_in (reverse new)) (keys_of fs))
next_spot rest new f spots left s fs e h all =
    let split : s ∷ reverse left ≡ spots_of (chars (string_bytes f.0) ∷ keys_in (reverse new)) (keys_of fs) = sym (reverse-append left (s ∷ [])) ∙ ap reverse (sym h) ∙ all ∙ ap (λ gs. spots_of (keys_of gs) (keys_of fs)) (next_keys rest new f e) in
    (cc, cc)

-- what is popped of the spots
popped : (spots left : List Spot) (r : Option Spot) (s first : Spot) (more : List Spot) → spots ≡ left ++ option_to_list r → IsSome r ↔ (0 < length spots) → s ≡ unwrap_or r spot.Passed → reverse spots ≡ first ∷ more → spots ≡ left ++ s ∷ []
popped spots left (Some x) s first more e some is h = e ∙ ap (λ y. left ++ y ∷ []) (sym is)
popped spots left None s first more e some is h =
    let counted : length spots ≡ suc (length more) = sym (length-reverse spots) ∙ ap length h in
    let no : false ≡ true = some.1 (omega (arith, counted)) in
    absurd (cc)

turn : (rest new : List Member) (f : Member) (spots left : List Spot) (s : Spot) (fs gs : Fields) → rest ≡ new ++ f ∷ [] → spots ≡ left ++ s ∷ [] → reverse spots ≡ spots_of (keys_in (reverse rest)) (keys_of fs) → gs ≡ spot_merged s (chars (string_bytes f.0)) (value_of f.1) fs
    → (fields_merged gs (fields_view (reverse new)) ≡ fields_merged fs (fields_view (reverse rest))) × (reverse left ≡ spots_of (keys_in (reverse new)) (keys_of gs))
turn rest new f spots left s fs gs e h all is =
    let n = next_spot rest new f spots left s fs e h all in
    let key = chars (string_bytes f.0) in (
      ap (λ x. fields_merged x (fields_view (reverse new))) is ∙ merged_next key (value_of f.1) fs (fields_view (reverse new)) s n.0 ∙ ap (fields_merged fs) (sym (next_keys rest new f e)),
      n.1 ∙ sym (kept_spots key (value_of f.1) fs (keys_in (reverse new)) s n.0) ∙ ap (λ x. spots_of (keys_in (reverse new)) (keys_of x)) (sym is),
    )

pub next_turn : (rest new : List Member) (f : Member) (spots left : List Spot) (r : Option Spot) (s : Spot) (fs gs : List Member) → rest ≡ new ++ f ∷ [] → spots ≡ left ++ option_to_list r → IsSome r ↔ (0 < length spots) → s ≡ unwrap_or r spot.Passed
    → reverse spots ≡ spots_of (keys_in (reverse rest)) (keys_in fs) → MergesAt s (chars (string_bytes f.0)) (value_of f.1) fs gs
    → (fields_merged (fields_view gs) (fields_view (reverse new)) ≡ fields_merged (fields_view fs) (fields_view (reverse rest))) × (reverse left ≡ spots_of (keys_in (reverse new)) (keys_in gs))
next_turn rest new f spots left r s fs gs e h some is all merged =
    let key = chars (string_bytes f.0) in
    let first = spot_unless (is_some (last_index key (keys_in (reverse new)))) (last_index key (keys_in fs)) in
    let split = popped spots left r s first (spots_of (keys_in (reverse new)) (keys_in fs)) h some is (all ∙ ap (λ gs. spots_of (keys_of gs) (keys_in fs)) (next_keys rest new f e)) in
    let next = next_spot rest new f spots left s (fields_view fs) e split all in
    turn rest new f spots left s (fields_view fs) (fields_view gs) e split all (merged (is_spot key _ (fields_view fs) s next.0))
