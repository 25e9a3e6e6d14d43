-- The turns of the loop that reads a value of any kind: how a value in it begins, and how the whole ends.
use Rattle.std.proofs.Common.{◌≡◌, ℕ, suc, ◌-◌, ◌<◌, false, List, [], ◌∷◌, ◌++◌, length, refl, ap, sym, ◌∙◌, subst, arith, ◌⊎◌, inl, inr, Some, Vec, String}
use Rattle.std.specs.Prelude.{Result, Ok, Err}
use Rattle.std.specs.declared.alloc.Global.{Global}
use Rattle.std.specs.Vec.{vec_len}
use Rattle.json5_grammar.specs.declared.error_code.ErrorCode.TheVariants as codes
use Rattle.json5_grammar.specs.Faults.Fronts.{opening}
use Rattle.json5_grammar.specs.Model.Reading.{Read, here, got, bad, placed}
use Rattle.json5_grammar.specs.Model.ReadSteps.{forget}
use Rattle.json5_grammar.specs.Model.ReadValues.{read}
use Rattle.json5_grammar.proofs.ValuesSound.{read_sound}
use Rattle.json5_grammar.proofs.ValueSteps.{read_too_deep}
use Rattle.json5_types.specs.declared.error.Error.{Error}
use Rattle.json5_tokens.specs.Cursor.{Cursor, IsOutOfMemory}
use Rattle.json5_types.specs.declared.value.Value.{Value}
use Rattle.json5_types.specs.ValueMeanings.{Datum, value_of}
use Rattle.json5_read.specs.declared.brackets.BracketKind.{BracketKind}
use Rattle.json5_read.specs.declared.brackets.BracketKind.TheVariants as bracket
use Rattle.json5_read.specs.declared.brackets.OpenBracket.{OpenBracket}
use Rattle.json5_read.specs.declared.unfinished.Next.{Next}
use Rattle.json5_read.specs.declared.unfinished.Next.TheVariants as next
use Rattle.json5_read.specs.declared.unfinished.Unfinished.{Unfinished}
use Rattle.json5_read.specs.Brackets.{bracket_of}
use Rattle.json5_read.specs.BuildSteps.{AtBracket, IsInFront, Begun, BeginsValue, array_at, object_at, value_in_at, start_of, value_in, Building, BuildingInside, TurnsBuilding, TurnsBuildingInside}
use Rattle.json5_read.specs.OwnedReads.{BlamesEach, BlamesOrMemory, as_datum, tree_at, datum_at, ReadsDatum}
use Rattle.json5_read.specs.Nesting.{Nested, Within}
use Rattle.json5_read.specs.Opening.{OpenedAt, OpensBracket}
use Rattle.json5_read.specs.ModelSteps.{IsInside, SameText, RefusesRead, value_at}
use Rattle.json5_read.proofs.BuildRests.{array_opened, object_opened}
use Rattle.json5_read.proofs.Nesting.{value_ended, value_opened, here_blamed, starts, ends_inside}
use Rattle.json5_read.proofs.SkipInvariant.{ready_opened}
use Rattle.json5_read.proofs.BuildScalars.{datum_got, forget_bad, tree_blamed, datum_blamed}
use Rattle.json5_read.proofs.ModelSteps.{some_next}

-- ---- the first turn of a value

-- how many brackets may be open in it
pub room_left : (room : ℕ) (stack : Vec Unfinished Global) (count left : ℕ) → count ≡ vec_len stack → left ≡ room - count → left ≡ room - length stack.items
room_left room stack count left is less = let same = stack.ok in omega (arith, is, less, same)

-- after the value's bracket, m is left of the value
module _ (room : ℕ) (k : BracketKind) (fs : List Unfinished) (f : OpenBracket) (m : ℕ → Read Datum) (old mid : Cursor) (ready : IsInside old) (o : OpenedAt (room - length fs) f old mid)
    (reads : (d : ℕ) → as_datum (read (suc d) (opening (bracket_of f.kind) ∷ mid.unread)) ≡ placed (opening (bracket_of f.kind) ∷ mid.unread) (m d)) where
  inside_of : (w : Read Datum) → Building room w fs (next.Opens k) old → BuildingInside room w fs f.start m old.unread mid
  inside_of w h =
      let d = o.room_left in
      let more : room - length fs ≡ suc (room - length fs - 1) = omega (arith, d) in
      value_opened start_of value_in room old mid w (datum_at (room - length fs) old) (m (room - length fs - 1)) fs f.start h (ready_opened (room - length fs) f old mid ready o) o.counted o.same_text o.room_left
      (ap (λ k. as_datum (read k old.unread)) more ∙ ap (λ z. as_datum (read (suc (room - length fs - 1)) z)) o.sign ∙ reads (room - length fs - 1) ∙ ap (λ z. placed z (m (room - length fs - 1))) (sym o.sign))

  first_bracket : (after : List Unfinished) (new : Cursor) (result : Result Next Error) → length mid.unread < length old.unread → TurnsBuildingInside m f.start false fs after mid new result → TurnsBuilding room k fs after old new result
  first_bracket after new (Ok n) less t = record {
    goes = λ w h. t.goes room w old.unread (inside_of w h);
    front = t.front;
    refused = tt;
    same_text = t.same_text ∙ o.same_text;
    shorter = let k = t.no_longer in omega (arith, less, k);
  }
  first_bracket after new (Err e) less t = record { goes = tt; front = tt; refused = by_cause t.refused; same_text = t.same_text ∙ o.same_text; shorter = tt }
    where
      by_cause : IsOutOfMemory e ⊎ ((room : ℕ) (w : Read Datum) (q : List ℕ) → BuildingInside room w fs f.start m q mid → RefusesRead mid.input w e) → IsOutOfMemory e ⊎ ((w : Read Datum) → Building room w fs (next.Opens k) old → RefusesRead old.input w e)
      by_cause (inl memory) = inl memory
      by_cause (inr k) = inr (λ w h. subst (λ z. RefusesRead z w e) o.same_text (k room w old.unread (inside_of w h)))

-- an array without elements or an object without members so far is what follows its bracket
pub array_begun : (room : ℕ) (k : BracketKind) (fs after : List Unfinished) (f : OpenBracket) (elements : Vec Value Global) (old mid new : Cursor) (result : Result Next Error) → IsInside old → OpenedAt (room - length fs) f old mid → f.kind ≡ bracket.Array → elements.items ≡ []
    → TurnsBuildingInside (array_at elements.items false mid) f.start false fs after mid new result → TurnsBuilding room k fs after old new result
array_begun room k fs after f elements old mid new result ready o is none t =
    first_bracket room k fs f (array_at elements.items false mid) old mid ready o
    (subst (λ vs. (d : ℕ) → as_datum (read (suc d) (opening (bracket_of f.kind) ∷ mid.unread)) ≡ placed (opening (bracket_of f.kind) ∷ mid.unread) (array_at vs false mid d)) (sym none)
    (subst (λ z. (d : ℕ) → as_datum (read (suc d) (opening (bracket_of z) ∷ mid.unread)) ≡ placed (opening (bracket_of z) ∷ mid.unread) (array_at [] false mid d)) (sym is) (λ d. array_opened d mid.unread)))
    after new result (let sign = o.sign in omega (arith, ap length sign)) t

pub object_begun : (room : ℕ) (k : BracketKind) (fs after : List Unfinished) (f : OpenBracket) (members : Vec (String Global × Value) Global) (old mid new : Cursor) (result : Result Next Error) → IsInside old → OpenedAt (room - length fs) f old mid → f.kind ≡ bracket.Object
    → members.items ≡ [] → TurnsBuildingInside (object_at members.items false mid) f.start false fs after mid new result → TurnsBuilding room k fs after old new result
object_begun room k fs after f members old mid new result ready o is none t =
    first_bracket room k fs f (object_at members.items false mid) old mid ready o
    (subst (λ vs. (d : ℕ) → as_datum (read (suc d) (opening (bracket_of f.kind) ∷ mid.unread)) ≡ placed (opening (bracket_of f.kind) ∷ mid.unread) (object_at vs false mid d)) (sym none)
    (subst (λ z. (d : ℕ) → as_datum (read (suc d) (opening (bracket_of z) ∷ mid.unread)) ≡ placed (opening (bracket_of z) ∷ mid.unread) (object_at [] false mid d)) (sym is) (λ d. object_opened d mid.unread)))
    after new result (let sign = o.sign in omega (arith, ap length sign)) t

-- there is no room for the bracket
pub bracket_refused : (room left : ℕ) (k : BracketKind) (fs : List Unfinished) (old new : Cursor) (e : Error) → left ≡ room - length fs → AtBracket k old → OpensBracket left old new (Err e) → TurnsBuilding room k fs fs old new (Err e)
bracket_refused room left k fs old new e is front o = record {
  goes = tt;
  front = tt;
  refused = inr (λ w h.
      let (r, x) = some_next old.unread (opening (bracket_of k)) front in
      let none : room - length fs ≡ 0 = sym is ∙ o.full in
      let bad_value : value_at (room - length fs) old ≡ bad (Some codes.TooDeep) (here old.unread) =
      ap (λ d. forget (read d old.unread)) none ∙ ap (λ z. forget (read 0 z)) x ∙ read_too_deep (bracket_of k) r ∙ ap (λ z. bad (Some codes.TooDeep) (here z)) (sym x) in
      let blamed : RefusesRead old.input (value_at (room - length fs) old) e = subst (λ d. RefusesRead old.input (value_at d old) e) is o.refused in
      here_blamed start_of value_in room old w (datum_at (room - length fs) old) fs e h (Some codes.TooDeep) old.unread
      (ap as_datum (forget_bad (tree_at (room - length fs) old) (Some codes.TooDeep) (here old.unread) bad_value))
      (datum_blamed (room - length fs) old e (tree_blamed (room - length fs) old e blamed)));
  same_text = o.same_text;
  shorter = tt;
}

-- ---- the whole

-- nothing is open at the start
pub starts_building : (room : ℕ) (fs : List Unfinished) (old new : Cursor) (n : Next) → fs ≡ [] → IsInside old → Begun old new n → Building room (datum_at room old) fs n new × IsInFront n new × SameText old new
starts_building room fs old new (next.Ended v) none ready k =
    let g = k room in
    (subst (λ gs. Building room (datum_at room old) gs (next.Ended v) new) (sym none) (value_ended start_of value_in room old new (datum_at room old) (datum_at room old) [] (value_of v) (starts start_of value_in room old (datum_at room old) ready) g), tt, g.took.same)
starts_building room fs old new (next.Opens k) none ready (same, at) =
    subst (λ (s : Cursor). Building room (datum_at room old) fs (next.Opens k) s × IsInFront (next.Opens k) s × SameText old s) (sym same) (
      subst (λ gs. Building room (datum_at room old) gs (next.Opens k) old) (sym none)
          (subst (λ d. Within start_of value_in room (datum_at room old) [] (datum_at d old) old) (omega arith) (starts start_of value_in room old (datum_at room old) ready)),
      at,
      refl,
    )

pub not_begun : (room : ℕ) (old new : Cursor) (e : Error) → BeginsValue old new (Err e) → ReadsDatum room old new (Err e)
not_begun room old new e k = record { given = tt; refused = by_cause k.refused; same_text = k.same_text }
  where
    by_cause : BlamesEach old.input (λ d. datum_at d old) e → BlamesOrMemory old.input (datum_at room old) e
    by_cause (inl memory) = inl memory
    by_cause (inr b) = inr (b room)

pub turn_not_read : (room : ℕ) (k : BracketKind) (old now new : Cursor) (fs after : List Unfinished) (e : Error) → Building room (datum_at room old) fs (next.Opens k) now → SameText old now → TurnsBuilding room k fs after now new (Err e) → ReadsDatum room old new (Err e)
turn_not_read room k old now new fs after e h same t = record { given = tt; refused = by_cause t.refused; same_text = t.same_text ∙ same }
  where
    by_cause : IsOutOfMemory e ⊎ ((w : Read Datum) → Building room w fs (next.Opens k) now → RefusesRead now.input w e) → BlamesOrMemory old.input (datum_at room old) e
    by_cause (inl memory) = inl memory
    by_cause (inr b) = inr (subst (λ z. RefusesRead z (datum_at room old) e) same (b (datum_at room old) h))

-- the value itself ended
pub value_read : (room : ℕ) (old now : Cursor) (fs : List Unfinished) (v : Value) → fs ≡ [] → SameText old now → Building room (datum_at room old) fs (next.Ended v) now → ReadsDatum room old now (Ok v)
value_read room old now fs v none same h =
    let reads : datum_at room old ≡ got (value_of v) now.unread = subst (λ gs. Nested start_of value_in now.input room gs (got (value_of v) now.unread) (datum_at room old)) none h.nested in
    let (t, is, view) = datum_got (read room old.unread) (value_of v) now.unread reads in
    let k = read_sound room old.unread now.unread t is in
    record { given = record { reads = reads; taken = k.0; took = record { split = k.1; same = same } }; refused = tt; same_text = same }

-- what is round a value that ended
pub ended_inside : (room : ℕ) (w : Read Datum) (now : Cursor) (gs fs : List Unfinished) (f : Unfinished) (v : Value) → gs ≡ fs ++ f ∷ [] → Building room w gs (next.Ended v) now → (q : List ℕ) × BuildingInside room w fs (start_of f) (value_in_at f v now) q now
ended_inside room w now gs fs f v is h = ends_inside start_of value_in room now w gs fs f (value_of v) is h

pub member_not_read : (room : ℕ) (old now new : Cursor) (fs : List Unfinished) (at : ℕ) (m : ℕ → Read Datum) (q : List ℕ) (e : Error) → BuildingInside room (datum_at room old) fs at m q now → SameText old now
    → IsOutOfMemory e ⊎ ((room : ℕ) (w : Read Datum) (q : List ℕ) → BuildingInside room w fs at m q now → RefusesRead now.input w e) → SameText now new → ReadsDatum room old new (Err e)
member_not_read room old now new fs at m q e h same b g = record { given = tt; refused = by_cause b; same_text = g ∙ same }
  where
    by_cause : IsOutOfMemory e ⊎ ((room : ℕ) (w : Read Datum) (q : List ℕ) → BuildingInside room w fs at m q now → RefusesRead now.input w e) → BlamesOrMemory old.input (datum_at room old) e
    by_cause (inl memory) = inl memory
    by_cause (inr k) = inr (subst (λ z. RefusesRead z (datum_at room old) e) same (k room (datum_at room old) q h))
