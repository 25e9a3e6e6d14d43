use Rattle.std.proofs.Common.{◌≡◌, ◌≤◌, ◌∙◌, ◌∷◌, [], ℕ, List, Option, Some, ap, length, refl, rules, arith}
use Rattle.std.proofs.lemmas.List.{length-append, length-map}
use Rattle.json5.specs.Trees.{Tree, Trees}
use Rattle.json5.specs.Collections.{contents}
use Rattle.json5.specs.declared.Spanned.{Spanned}
use Rattle.json5.specs.Lending.{state_of}
use Rattle.json5.proofs.ElementLoops.{HasContents, HasAtMost, begins, steps, stops, unopened_completes, next_completes, past_completes, end_completes}
use Rattle.test_own_types.specs.Accepted.{at_most}
use Rattle.test_own_types.proofs.lists.AtMostDeserialize.deserialize.Goals as goal

has_contents : {C : Type 0} (f : Tree → Option C) (n : ℕ) → HasContents f (at_most n f)
has_contents f n ts d e = grind arith

has_at_most : {C : Type 0} (f : Tree → Option C) (n : ℕ) → HasAtMost f (at_most n f) n
has_at_most f n ts d e = grind arith

few_values : {C : Type 0} (f : Tree → Option C) (n : ℕ) (ts : Trees) (cs : List C) → contents f ts ≡ Some cs → length cs ≤ n → at_most n f ts ≡ Some cs
few_values f n ts cs are few = grind arith

pub loop-seq-init : goal.loop-seq-init
loop-seq-init g c = let none = ap length c.new-values.ensures.items in
    record { same_reference = refl; reading = begins g.T.Deserialize.content g.T.Deserialize.convert state_of c.in_ok-seq.seq c.in_ok-seq.ensures.opens c.new-values.ensures.items; few = omega (arith, none) }

pub loop-seq-preserved : goal.loop-seq-preserved
loop-seq-preserved g c = record {
  same_reference = c.in_ok-next.ensures.access.same_reference ∙ c.loop-seq.invariant.same_reference;
  reading = steps g.T.Deserialize.content (λ (s : Spanned _). g.T.Deserialize.content s.value) c.in-Some.next.value c.in-Some.next refl c.loop-seq.invariant.reading c.in_ok-push.ensures.items c.in_ok-next.ensures.access.start
      (rw c.in-Some.is at c.in_ok-next.ensures.read) (rw c.in-Some.is at c.in_ok-next.ensures.left);
  few = grind (arith, c.if-len.false, c.len.ensures, c.loop-seq.values.ok.0, c.loop-seq.invariant.few, ap length c.in_ok-push.ensures.items, length-append c.loop-seq.values.items (c.in-Some.next.value ∷ []));
}

pub returns-in_err-seq-clause-complete : goal.returns-in_err-seq-clause-complete
returns-in_err-seq-clause-complete g c = unopened_completes _ _ _ c.from_residual.ensures.1 c.in_err-seq.ensures.opens

pub returns-in_err-next-clause-complete : goal.returns-in_err-next-clause-complete
returns-in_err-next-clause-complete g c =
    next_completes (λ (s : Spanned _). g.T.Deserialize.content s.value) (at_most g.row.N g.T.Deserialize.convert) _ _ c.from_residual-in_err-next.ensures.1 (has_contents g.T.Deserialize.convert g.row.N) c.loop-seq.invariant.reading c.in_err-next.ensures.left

pub returns-then-len-clause-complete : goal.returns-then-len-clause-complete
returns-then-len-clause-complete g c =
    past_completes (at_most g.row.N g.T.Deserialize.convert) c.in_ok-custom_at.field-0 g.row.N (has_at_most g.T.Deserialize.convert g.row.N) (grind (arith, c.if-len.true, c.len.ensures, c.loop-seq.values.ok.0, length-append c.loop-seq.values.items (c.in-Some.next.value ∷ [])))
    (steps g.T.Deserialize.content (λ (s : Spanned _). g.T.Deserialize.content s.value) c.in-Some.next.value c.in-Some.next refl c.loop-seq.invariant.reading refl c.in_ok-next.ensures.access.start (rw c.in-Some.is at c.in_ok-next.ensures.read) (rw c.in-Some.is at c.in_ok-next.ensures.left))

pub returns-in_err-end-clause-complete : goal.returns-in_err-end-clause-complete
returns-in_err-end-clause-complete g c =
    end_completes (λ (s : Spanned _). g.T.Deserialize.content s.value) (at_most g.row.N g.T.Deserialize.convert) _ _ c.from_residual-in_err-end.ensures.1 (has_contents g.T.Deserialize.convert g.row.N) c.loop-seq.invariant.reading
    (rw c.in_default.is at c.in_ok-next.ensures.left) (c.in_err-end.ensures.alone (search rules)).left

pub returns-clause-sound : goal.returns-clause-sound
returns-clause-sound g c =
    stops c.loop-seq.invariant.reading (search rules) (λ ts k. (c.in_ok-end.ensures.alone (search rules)).read c.args.de.now ts (rw c.in_default.is at c.in_ok-next.ensures.read c.args.de.now ts k))
    (λ ts are. few_values g.T.Deserialize.convert g.row.N ts _ are (rw (length-map c.loop-seq.values.items g.T.Deserialize.content) c.loop-seq.invariant.few))
