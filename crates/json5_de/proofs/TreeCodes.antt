-- The codes where a value of any kind is expected: at the end, and at a character that begins no value.
use Rattle.std.proofs.Common.{◌≡◌, ℕ, ◌-◌, ◌≤◌, Bool, true, false, List, [], ◌∷◌, ◌++◌, length, refl, ap, sym, ◌∙◌, arith, length-append, Option, Some, None}
use Rattle.std.specs.Prelude.{nat_le, if◌then◌else◌, Result, Ok, Err, IfOk, IfErr}
use Rattle.std.proofs.lemmas.Bool.Decides.{nat_tests}
use Rattle.json5_grammar.specs.declared.error_code.ErrorCode.{ErrorCode}
use Rattle.json5_grammar.specs.declared.error_code.ErrorCode.TheVariants as codes
use Rattle.json5_grammar.specs.Language.Documents.{max_depth}
use Rattle.json5_grammar.specs.Faults.{begins_value}
use Rattle.json5_grammar.specs.Model.Reading.{Read, Place, here, inner, got, bad, IsAt}
use Rattle.json5_grammar.specs.Model.ReadValues.{read}
use Rattle.json5_grammar.specs.Language.Trees.{Tree, depth}
use Rattle.json5_grammar.specs.Language.Values.{Val, Stops}
use Rattle.json5_grammar.proofs.ValueHeads.{val_head}
use Rattle.json5_grammar.proofs.ValuesRead.{read_complete}
use Rattle.json5_grammar.proofs.ValueSteps.{read_missing, read_nothing}
use Rattle.json5_types.specs.declared.error.Error.{Error}
use Rattle.json5_de.proofs.TreeFaults.{as_reading}
use Rattle.json5_tokens.specs.Cursor.{IsOutOfMemory}
use Rattle.json5_de.specs.AnyTree.{ReadingRefuses, RefusedInReading, ReadsTree, TellsTreesApart}
use Rattle.json5_de.specs.DeserializeLaw.{Gives}
use Rattle.json5_de.specs.State.{State}
use Rattle.json5_de.proofs.ExpectedKinds.{Expected, ends_or_memory, differs_or_memory}
use Rattle.json5_de.proofs.TreesRead.{forget_bad}

-- the trees that fit within so many brackets
abbrev shallow : {C : Type 0} → ℕ → (Tree → Option C) → Tree → Option C
shallow level convert t = if nat_le (depth t) (max_depth - level) then convert t else None

abbrev fault : Option ErrorCode → Place → Read Tree
fault reason p = bad reason p

other_read : (d c : ℕ) (r : List ℕ) → begins_value c ≡ false → read d (c ∷ r) ≡ bad (Some codes.ExpectedValue) (here (c ∷ r))
other_read d c r h =
    forget_bad (read d (c ∷ r)) (Some codes.ExpectedValue) (here (c ∷ r))
    (read_nothing d c r (grind (arith, nat_tests)) (grind (arith, nat_tests)) (grind (arith, nat_tests)) (grind (arith, nat_tests))
    (grind (arith, nat_tests)) (grind (arith, nat_tests)) (grind (arith, nat_tests)))

at_end : (level : ℕ) (reason : Option ErrorCode) (place : Option (List ℕ)) → ReadingRefuses level [] reason place → (reason ≡ Some codes.EofParsingValue) × (place ≡ None)
at_end level reason place (p, is, at) = by_place p place (sym is ∙ forget_bad (read (max_depth - level) []) (Some codes.EofParsingValue) inner (read_missing (max_depth - level))) at
  where
    by_place : (p : Place) (place : Option (List ℕ)) → fault reason p ≡ fault (Some codes.EofParsingValue) inner → IsAt [] place p → (reason ≡ Some codes.EofParsingValue) × (place ≡ None)
    by_place (here q) place e k = absurd (cc)
    by_place inner None e k = (cc, refl)
    by_place inner (Some b) e k = absurd k

at_other : (level c : ℕ) (r : List ℕ) (reason : Option ErrorCode) (place : Option (List ℕ)) → begins_value c ≡ false → ReadingRefuses level (c ∷ r) reason place → (reason ≡ Some codes.ExpectedValue) × (place ≡ Some [])
at_other level c r reason place h (p, is, at) = by_place p place (sym is ∙ other_read (max_depth - level) c r h) at
  where
    nothing_before : (b q : List ℕ) → q ≡ c ∷ r → c ∷ r ≡ b ++ q → b ≡ []
    nothing_before [] q e k = refl
    nothing_before (d ∷ b) q e k = absurd (let l = ap length k in let m = ap length e in let n = length-append b q in omega (arith, l, m, n))

    by_place : (p : Place) (place : Option (List ℕ)) → fault reason p ≡ fault (Some codes.ExpectedValue) (here (c ∷ r)) → IsAt (c ∷ r) place p → (reason ≡ Some codes.ExpectedValue) × (place ≡ Some [])
    by_place (here q) (Some b) e k = let same : q ≡ c ∷ r = cc in (cc, ap (λ z. Some z) (nothing_before b q same k))
    by_place (here q) None e k = absurd k
    by_place inner place e k = absurd (cc)

no_fault : {C : Type 0} (level : ℕ) (convert : Tree → Option C) (s r : List ℕ) (t : Tree) (v : C) (reason : Option ErrorCode) (place : Option (List ℕ)) → shallow level convert t ≡ Some v → Val s t → Stops s r → ReadingRefuses level (s ++ r) reason place → ⊥
no_fault level convert s r t v reason place e val stops (p, is, at) = by_test (nat_le (depth t) (max_depth - level)) refl e
  where
    by_test : (b : Bool) → nat_le (depth t) (max_depth - level) ≡ b → (if b then convert t else None) ≡ Some v → ⊥
    by_test false h k = absurd (cc)
    by_test true h k = let low : depth t ≤ max_depth - level = grind (arith, nat_tests) in let clash : got t r ≡ bad reason p = sym (read_complete val r stops (max_depth - level) low) ∙ is in absurd (cc)

first : (s : List ℕ) (t : Tree) → Val s t → (c : ℕ) × (y : List ℕ) × (s ≡ c ∷ y) × (begins_value c ≡ true)
first s t val = let h = val_head val in (h.char, h.more, h.is, h.begins)

expects_tree : {C : Type 0} (level : ℕ) (convert : Tree → Option C) → Expected (ReadingRefuses level) (shallow level convert) begins_value codes.EofParsingValue codes.ExpectedValue
expects_tree level convert = record {
  at_end = at_end level;
  at_other = at_other level;
  no_fault = no_fault level convert;
  first = λ s t v is val. first s t val;
}

gives_shallow : {V C : Type 0} (content : V → C) (convert : Tree → Option C) (old new : State) (v : V) → Gives content convert old new v → Gives content (shallow old.level convert) old new v
gives_shallow content convert old new v (t, took, is) =
    let low = took.shallow in
    let within : nat_le (depth t) (max_depth - old.level) ≡ true = grind (arith, nat_tests) in
    (t, took, ap (λ b. if b then convert t else None) within ∙ is)

answers : {V C : Type 0} (content : V → C) (convert : Tree → Option C) (allocation_free : Tree → Bool) (old new : State) (result : Result V Error) → ReadsTree content convert allocation_free old new result
    → IfOk result (λ v. Gives content (shallow old.level convert) old new v) × IfErr result (RefusedInReading old)
answers content convert allocation_free old new (Ok v) k = (gives_shallow content convert old new v k.sound, tt)
answers content convert allocation_free old new (Err e) k = (tt, as_reading old e k.refused)

pub tells_trees_apart : {V C : Type 0} (content : V → C) (convert : Tree → Option C) (allocation_free : Tree → Bool) → TellsTreesApart content convert allocation_free
tells_trees_apart content convert allocation_free old new result k =
    let (given, refused) = answers content convert allocation_free old new result k in
    (ends_or_memory IsOutOfMemory (expects_tree old.level convert) content old new result given refused, differs_or_memory IsOutOfMemory (expects_tree old.level convert) content old new result given refused)
