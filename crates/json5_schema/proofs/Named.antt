-- Where a name leads, a schema stands that has it.
use Rattle.std.proofs.Common.{◌≡◌, ◌⊎◌, if◌then◌else◌, ℕ, Bool, true, false, List, Option, Some, None, inl, inr, refl}
use Rattle.std.specs.Str.{encode_utf8_all}
use Rattle.json5_types.specs.ValueMeanings.{Datum, null, boolean, number, text, array, object, Items, no_item, item, Fields, no_field, field}
use Rattle.json5_types.specs.ValueLookups.{or_else}
use Rattle.json5_schema.specs.Subschemas.{takes_schema, takes_schemas, takes_named, StandsIn, alone, element, member, itself, within, IsElement, IsMember}
use Rattle.json5_schema.specs.Conformance.{has_anchor, anchored, anchored_in, anchored_through, anchored_among, anchored_named}
use Rattle.json5_numbers.specs.Sameness.{is_named}
use Rattle.json5_schema.specs.Anchors.{StandsNamed}

-- ---- choices

either : (o p : Option Datum) (s : Datum) → or_else o p ≡ Some s → (o ≡ Some s) ⊎ (p ≡ Some s)
either None p s e = inr e
either (Some x) p s e = inl e

unless : (b : Bool) (o : Option Datum) (s : Datum) → (if b then None else o) ≡ Some s → o ≡ Some s
unless true o s e = absurd (cc)
unless false o s e = e

provided : (b : Bool) (o : Option Datum) (s : Datum) → (if b then o else None) ≡ Some s → (b ≡ true) × (o ≡ Some s)
provided true o s e = (refl, e)
provided false o s e = absurd (cc)

chosen : (b : Bool) (o p : Option Datum) (s : Datum) → (if b then o else p) ≡ Some s → ((b ≡ true) × (o ≡ Some s)) ⊎ (p ≡ Some s)
chosen true o p s e = inl (refl, e)
chosen false o p s e = inr e

-- ---- what is found where

record InKeywords (name : List ℕ) (fs : Fields) (s : Datum) : Type 0 where
  word : List ℕ
  argument : Datum
  top : Datum
  has : IsMember word argument fs
  stands : StandsIn (encode_utf8_all word) argument top
  leads : StandsNamed top name s

record InArgument (name word : List ℕ) (a s : Datum) : Type 0 where
  top : Datum
  stands : StandsIn word a top
  leads : StandsNamed top name s

record InItems (name : List ℕ) (xs : Items) (s : Datum) : Type 0 where
  top : Datum
  has : IsElement top xs
  leads : StandsNamed top name s

record InFields (name : List ℕ) (fs : Fields) (s : Datum) : Type 0 where
  key : List ℕ
  top : Datum
  has : IsMember key top fs
  leads : StandsNamed top name s

in_object : (name : List ℕ) (fs : Fields) (s : Datum) → (anchored_in name fs ≡ Some s → InKeywords name fs s) → (if has_anchor name fs then Some (object fs) else anchored_in name fs) ≡ Some s → StandsNamed (object fs) name s
in_object name fs s inner e = by_choice (chosen (has_anchor name fs) (Some (object fs)) (anchored_in name fs) s e)
  where
    by_choice : ((has_anchor name fs ≡ true) × (Some (object fs) ≡ Some s)) ⊎ (anchored_in name fs ≡ Some s) → StandsNamed (object fs) name s
    by_choice (inl h) =
        let k : Some (object fs) ≡ Some s = h.1 in
        let same : object fs ≡ s = cc in
        rw (← same) (itself (object fs), h.0)
    by_choice (inr h) =
        let p = inner h in
        (within (object fs) p.argument p.top s p.word p.has p.stands p.leads.0, p.leads.1)

first_or_later : (name u : List ℕ) (a : Datum) (rest : Fields) (s : Datum) → (anchored_through name (encode_utf8_all u) a ≡ Some s → InArgument name (encode_utf8_all u) a s) → (anchored_in name rest ≡ Some s → InKeywords name rest s)
    → ((if is_named u rest then None else anchored_through name (encode_utf8_all u) a) ≡ Some s) ⊎ (anchored_in name rest ≡ Some s) → InKeywords name (field u a rest) s
first_or_later name u a rest s here later (inl h) =
    let p = here (unless (is_named u rest) (anchored_through name (encode_utf8_all u) a) s h) in
    record { word = u; argument = a; top = p.top; has = inl (refl, refl); stands = p.stands; leads = p.leads }
first_or_later name u a rest s here later (inr h) =
    let p = later h in
    record { word = p.word; argument = p.argument; top = p.top; has = inr p.has; stands = p.stands; leads = p.leads }

schema_or_members : (name word : List ℕ) (fs : Fields) (s : Datum) → ((if has_anchor name fs then Some (object fs) else anchored_in name fs) ≡ Some s → StandsNamed (object fs) name s) → (anchored_named name fs ≡ Some s → InFields name fs s)
    → ((takes_schema word ≡ true) × ((if has_anchor name fs then Some (object fs) else anchored_in name fs) ≡ Some s)) ⊎ ((if takes_named word then anchored_named name fs else None) ≡ Some s) → InArgument name word (object fs) s
schema_or_members name word fs s here members (inl h) = record { top = object fs; stands = alone h.0 refl; leads = here h.1 }
schema_or_members name word fs s here members (inr h) =
    let k = provided (takes_named word) (anchored_named name fs) s h in
    let p = members k.1 in
    record { top = p.top; stands = member p.key fs k.0 refl p.has; leads = p.leads }

item_or_later : (name : List ℕ) (x : Datum) (xs : Items) (s : Datum) → (anchored name x ≡ Some s → StandsNamed x name s) → (anchored_among name xs ≡ Some s → InItems name xs s) → (anchored name x ≡ Some s) ⊎ (anchored_among name xs ≡ Some s) → InItems name (item x xs) s
item_or_later name x xs s here later (inl h) = record { top = x; has = inl refl; leads = here h }
item_or_later name x xs s here later (inr h) =
    let p = later h in
    record { top = p.top; has = inr p.has; leads = p.leads }

field_or_later : (name u : List ℕ) (x : Datum) (rest : Fields) (s : Datum) → (anchored name x ≡ Some s → StandsNamed x name s) → (anchored_named name rest ≡ Some s → InFields name rest s)
    → ((if is_named u rest then None else anchored name x) ≡ Some s) ⊎ (anchored_named name rest ≡ Some s) → InFields name (field u x rest) s
field_or_later name u x rest s here later (inl h) = record { key = u; top = x; has = inl (refl, refl); leads = here (unless (is_named u rest) (anchored name x) s h) }
field_or_later name u x rest s here later (inr h) =
    let p = later h in
    record { key = p.key; top = p.top; has = inr p.has; leads = p.leads }

mutual
  pub leads_to : (name : List ℕ) (r s : Datum) → anchored name r ≡ Some s → StandsNamed r name s
  leads_to name (object fs) s e = in_object name fs s (λ h. in_keywords name fs s h) e
  leads_to name null s e = absurd (cc)
  leads_to name (boolean b) s e = absurd (cc)
  leads_to name (number n) s e = absurd (cc)
  leads_to name (text u) s e = absurd (cc)
  leads_to name (array xs) s e = absurd (cc)

  in_keywords : (name : List ℕ) (fs : Fields) (s : Datum) → anchored_in name fs ≡ Some s → InKeywords name fs s
  in_keywords name no_field s e = absurd (cc)
  in_keywords name (field u a rest) s e =
      first_or_later name u a rest s
      (λ h. in_argument name (encode_utf8_all u) a s h)
      (λ h. in_keywords name rest s h)
      (either (if is_named u rest then None else anchored_through name (encode_utf8_all u) a) (anchored_in name rest) s e)

  in_argument : (name word : List ℕ) (a s : Datum) → anchored_through name word a ≡ Some s → InArgument name word a s
  in_argument name word (array xs) s e =
      let h = provided (takes_schemas word) (anchored_among name xs) s e in
      let p = in_items name xs s h.1 in
      record { top = p.top; stands = element xs h.0 refl p.has; leads = p.leads }
  in_argument name word (object fs) s e =
      schema_or_members name word fs s
      (λ h. in_object name fs s (λ k. in_keywords name fs s k) h)
      (λ h. in_fields name fs s h)
      (chosen (takes_schema word) (if has_anchor name fs then Some (object fs) else anchored_in name fs) (if takes_named word then anchored_named name fs else None) s e)
  in_argument name word null s e = absurd (cc)
  in_argument name word (boolean b) s e = absurd (cc)
  in_argument name word (number n) s e = absurd (cc)
  in_argument name word (text u) s e = absurd (cc)

  in_items : (name : List ℕ) (xs : Items) (s : Datum) → anchored_among name xs ≡ Some s → InItems name xs s
  in_items name no_item s e = absurd (cc)
  in_items name (item x xs) s e =
      item_or_later name x xs s
      (λ h. leads_to name x s h)
      (λ h. in_items name xs s h)
      (either (anchored name x) (anchored_among name xs) s e)

  in_fields : (name : List ℕ) (fs : Fields) (s : Datum) → anchored_named name fs ≡ Some s → InFields name fs s
  in_fields name no_field s e = absurd (cc)
  in_fields name (field u x rest) s e =
      field_or_later name u x rest s
      (λ h. leads_to name x s h)
      (λ h. in_fields name rest s h)
      (either (if is_named u rest then None else anchored name x) (anchored_named name rest) s e)
