-- A tree that was read can be written.
use Rattle.std.proofs.Common.{◌≡◌, ℕ, suc, Bool, List, refl, ap, arith}
use Rattle.json5_grammar.specs.Language.Numbers.{Number, Num, whole, decimal}
use Rattle.json5_grammar.specs.Written.NumberText.{IsNumber}
use Rattle.json5_grammar.specs.Language.Trees.{Tree, Trees, Members, null, boolean, number, text, array, object, no_more, more, no_member, member, depth, depths, member_depths}
use Rattle.json5_grammar.specs.Language.Values.{Val, is_null, is_true, is_false, is_number, is_text, is_empty_array, is_array, is_empty_object, is_object, ElementList, last, next, MemberList, last_member, next_member, Member, entry}
use Rattle.json5_grammar.specs.Language.Documents.{Doc}
use Rattle.json5_grammar.proofs.NormalForms.{num_normal}
use Rattle.json5_write.specs.Out as written
use Rattle.json5_write.specs.Out.{out}
use Rattle.json5_write.specs.EscapeFreeMarks.{marks, element_marks, field_marks, unmarked, unmarked_elements, unmarked_fields, IsSpelled, AreSpelled, FieldsAreSpelled}
use Rattle.json5_write.proofs.WrittenDepths.{whole_from}

number_spelled : {s : List ℕ} (n : Number) → Num s n → IsNumber n
number_spelled (whole z) h = num_normal h
number_spelled (decimal d) h = num_normal h

mutual
  value_spelled : {s : List ℕ} {t : Tree} → Val s t → IsSpelled (unmarked t)
  value_spelled is_null = tt
  value_spelled is_true = tt
  value_spelled is_false = tt
  value_spelled (is_number {n = n} h) = number_spelled n h
  value_spelled (is_text h) = tt
  value_spelled (is_empty_array h) = tt
  value_spelled (is_array h) = members_spelled h
  value_spelled (is_empty_object h) = tt
  value_spelled (is_object h) = entries_spelled h

  members_spelled : {s : List ℕ} {ts : Trees} → ElementList s ts → AreSpelled (unmarked_elements ts)
  members_spelled (last w v b c) = (value_spelled v, tt)
  members_spelled (next w v b m) = (value_spelled v, members_spelled m)

  entries_spelled : {s : List ℕ} {ps : Members} → MemberList s ps → FieldsAreSpelled (unmarked_fields ps)
  entries_spelled (last_member e c) = (entry_spelled e, tt)
  entries_spelled (next_member e m) = (entry_spelled e, entries_spelled m)

  entry_spelled : {s u : List ℕ} {escape_free : Bool} {t : Tree} → Member s u escape_free t → IsSpelled (unmarked t)
  entry_spelled (entry a k b w v c) = value_spelled v

mutual
  same_depth : (t : Tree) → depth (marks (unmarked t)) ≡ depth t
  same_depth null = refl
  same_depth (boolean b) = refl
  same_depth (number n) = refl
  same_depth (text u escape_free) = refl
  same_depth (array ts) = ap suc (same_depths ts)
  same_depth (object ps) = ap suc (same_pair_depths ps)

  same_depths : (ts : Trees) → depths (element_marks (unmarked_elements ts)) ≡ depths ts
  same_depths no_more = refl
  same_depths (more t ts) = rw (same_depth t, same_depths ts) refl

  same_pair_depths : (ps : Members) → member_depths (field_marks (unmarked_fields ps)) ≡ member_depths ps
  same_pair_depths no_member = refl
  same_pair_depths (member u escape_free t ps) = rw (same_depth t, same_pair_depths ps) refl

pub read_written : (limit : ℕ) (x : List ℕ) (t : Tree) → Doc limit x t → (out limit (unmarked t) 0).stop ≡ written.whole
read_written limit x t d = whole_from limit (unmarked t) 0 (value_spelled d.value) (let same = same_depth t in let l = d.shallow in omega (arith, same, l))
