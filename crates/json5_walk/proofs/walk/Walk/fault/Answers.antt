use Rattle.std.proofs.Common.{◌≡◌, ℕ, Some, None, [], sym, ap, ◌∙◌, inl, inr}
use Rattle.std.specs.Prelude.{slice_get}
use Rattle.json5_walk.specs.Walks.{Walked, kinds_in, kinds_onto}
use Rattle.json5_walk.proofs.Calls.{none_open}
use Rattle.json5_walk.proofs.Refused.{unclosed_so, here_so, some_left}
use Rattle.json5_walk.proofs.walk.Walk.fault.Goals.{in_default-via-in-None+in_default, in_default-via-in_default}
use Rattle.json5_walk.proofs.walk.Walk.fault.Goals as goal

pub returns-in-None-Some : goal.returns-in-None-Some
returns-in-None-Some c = rw (sym c.self.view_is) (unclosed_so c.in-None-Some.bracket.kind (kinds_onto [] c.self.inside.outer.items) (ap (λ i. kinds_in i c.self.inside.outer.items) c.in-None-Some.is-1) (sym c.in-None-Some.is-0 ∙ c.peek.ensures) c.brackets.ensures c.new.ensures)

pub returns-in_default : goal.returns-in_default
returns-in_default c = elim c.in_default.branch [
  | in_default-via-in-None+in_default w ↦ here_so (inr (sym (ap (λ (v : Walked). v.kinds) c.self.view_is) ∙ none_open c.self.inside.inner c.self.inside.outer.items w.in_default.is-1 c.self.invariant.1)) c.offset.ensures c.position_of.ensures c.new_at.ensures
  | in_default-via-in_default w ↦ here_so (inl (some_left (λ none. not_both w.in_default.field-0-0 (sym w.in_default.is-0 ∙ c.peek.ensures ∙ ap (λ (v : Walked). slice_get v.unread 0) c.self.view_is ∙ sym none)))) c.offset.ensures c.position_of.ensures c.new_at.ensures
]
  where
    not_both : (n : ℕ) → Some n ≡ None → ⊥
    not_both n h = cc
