use Rattle.std.proofs.Common.{◌≡◌, ◌∙◌, Bool, true, false, ap, not, refl, subst, sym, take}
use Rattle.std.specs.Ordering.{eq_by_cmp}
use Rattle.std.proofs.lemmas.List.{take_all}
use Rattle.json5_settings_types.specs.Twins.{HasElements, is_like_one, no_twins}
use Rattle.json5_settings_types.proofs.TwinsSeen.{by_order, element_seen, one_more, still_none, twin_found}
use Rattle.json5_settings_types.proofs.unique.first_twin.Goals as goal

is_not : (a b c : Bool) → a ≡ not b → a ≡ c → b ≡ not c
is_not a true true e h = sym h ∙ e
is_not a true false e h = refl
is_not a false true e h = refl
is_not a false false e h = sym h ∙ e

pub returns-then-not-branch : goal.returns-then-not-branch
returns-then-not-branch g c =
    let l = c.loop-index in
    let vs = c.args.values.now in
    let v = c.index-values-index.result in
    let seen = is_like_one (eq_by_cmp g.T.Ord.cmp) (take l.index vs) v in
    let added = c.in_ok-insert.ensures.added ∙ ap not (l.invariant.1 (record { ref_ptr = c.args.values.ref_ptr; now = v })) in
    by_order g.T.PartialEq.eq g.T.Ord.cmp g.met.T.Ord.matches_eq vs ∙ twin_found (eq_by_cmp g.T.Ord.cmp) vs l.index v c.loop-index-test.true c.index-values-index.is seen refl (is_not c.in_ok-insert.field-0 seen false added c.if-not-branch.true) l.invariant.0

pub loop-index-preserved : goal.loop-index-preserved
loop-index-preserved g c =
    let l = c.loop-index in
    let vs = c.args.values.now in
    let v = c.index-values-index.result in
    let seen = is_like_one (eq_by_cmp g.T.Ord.cmp) (take l.index vs) v in
    let added = c.in_ok-insert.ensures.added ∙ ap not (l.invariant.1 (record { ref_ptr = c.args.values.ref_ptr; now = v })) in
    let more = one_more (eq_by_cmp g.T.Ord.cmp) vs l.index v c.loop-index-test.true c.index-values-index.is in (
      still_none (eq_by_cmp g.T.Ord.cmp) vs l.index v c.loop-index-test.true c.index-values-index.is seen refl (is_not c.in_ok-insert.field-0 seen true added c.if-not-branch.false) l.invariant.0,
      subst (HasElements g.T.Ord.cmp c.insert.new.self) (sym more) (element_seen g.T.Ord.cmp l.seen c.insert.new.self (take l.index vs) v l.invariant.1 (λ q. c.in_ok-insert.ensures.updates.0 q)),
    )

pub returns : goal.returns
returns g c =
    by_order g.T.PartialEq.eq g.T.Ord.cmp g.met.T.Ord.matches_eq c.args.values.now
    ∙ (ap (no_twins (eq_by_cmp g.T.Ord.cmp)) (sym (take_all c.loop-index.index c.args.values.now c.loop-index-test.false)) ∙ c.loop-index.invariant.0)
