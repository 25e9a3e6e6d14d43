use Rattle.std.proofs.Common.{◌≡◌, ℕ, ◌+◌, ◌<◌, List, [], ◌∷◌, ◌++◌, length, rules, take, get_or, refl, sym, subst}
use Rattle.std.proofs.lemmas.List.{take_all, take_more}
use Rattle.json5_types.specs.Cows.{cow_bytes}
use Rattle.json5_walk.specs.Walks.{Walked, Moved}
use Rattle.json5_edit.specs.Entries.{TakesEntry}
use Rattle.json5_edit.specs.declared.entries.Entry.{Entry}
use Rattle.json5_edit.proofs.MembersSorted.{PassesSome, all_passed, some_go_on_so, some_start}
use Rattle.json5_edit.proofs.sorting.pass_all.Goals as goal

one_more : {v w u : Walked} (es : List Entry) (i : ℕ) (e f : Entry) → i < length es → e ≡ get_or es i e → PassesSome (take i es) v w → cow_bytes e.key ≡ cow_bytes f.key → e.value.now ≡ f.value.now → Moved (TakesEntry (cow_bytes f.key) f.value.now) w u → PassesSome (take (i + 1) es) v u
one_more {v = v} {w = w} {u = u} es i e f inside is some key value moved =
    subst (λ z. PassesSome z v u) (sym (take_more es i e inside))
    (subst (λ z. PassesSome (take i es ++ (z ∷ [])) v u) is (some_go_on_so e f some key value moved))

pub loop-entry-init : goal.loop-entry-init
loop-entry-init c = some_start c.args.walk.now

pub loop-entry-preserved : goal.loop-entry-preserved
loop-entry-preserved c = one_more c.args.entries.now c.loop-entry.entry-index c.entry-item.result c.in_ok-other.other c.loop-entry-test.true (search rules) c.loop-entry.invariant (c.if-not-is_same.ensures.key refl) (c.if-not-is_same.ensures.value refl) c.in_ok-other.ensures

pub returns-in_default : goal.returns-in_default
returns-in_default c = all_passed (subst (λ z. PassesSome z c.args.walk.now c.loop-entry.walk) (take_all c.loop-entry.entry-index c.args.entries.now c.loop-entry-test.false) c.loop-entry.invariant) (rw c.in_default.is at c.in_ok-next_entry.ensures)
