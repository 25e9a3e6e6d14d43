use Rattle.std.proofs.Common.{◌≡◌, ◌+◌, ◌≤◌, ℕ, List, Option, Some, rules, arith}
use Rattle.std.proofs.lemmas.Bool.{false≢true}
use Rattle.json5.specs.Documents.{max_depth}
use Rattle.json5.specs.Trees.{Tree, array, more, no_more, depth}
use Rattle.json5.specs.Values.{Reads}
use Rattle.json5.specs.Collections.{array_of}
use Rattle.json5.specs.State.{State}
use Rattle.json5.specs.ConvertLists.{first_of, last_of}
use Rattle.json5.proofs.ElementLoops.{completes_as, unopened_completes}
use Rattle.test_own_types.proofs.lists.BoundsDeserialize.deserialize.Goals as goal

-- a tree that converts is a list of two that convert
two : {C : Type 0} (f : Tree → Option C) (s : State) (t : Tree) (r : List ℕ) (v : C × C) → Reads s.unread t r → s.level + depth t ≤ max_depth → array_of (first_of f (last_of f)) t ≡ Some v
    → (a b : Tree) × (x y : C) × (f a ≡ Some x) × (f b ≡ Some y) × Reads s.unread (array (more a (more b no_more))) r × (s.level + depth (array (more a (more b no_more))) ≤ max_depth)
two f s t r v reads shallow converts = grind arith

pub returns-in_err-seq-clause-complete : goal.returns-in_err-seq-clause-complete
returns-in_err-seq-clause-complete g c = unopened_completes _ _ _ c.from_residual.ensures.1 c.in_err-seq.ensures.opens

pub returns-in_err-low-clause-complete : goal.returns-in_err-low-clause-complete
returns-in_err-low-clause-complete g c = completes_as _ _ _ _ c.from_residual-in_err-low.ensures.1 (λ t r v live reads shallow converts.
    let (a, b, x, y, is_a, is_b, list, deep) = two g.T.Deserialize.convert c.args.de.now t r v reads shallow converts in
    let both = c.in_ok-seq.ensures.opens.left _ r live list deep in
    c.in_err-low.ensures.left _ r both x is_a)

pub returns-in_default-clause-complete : goal.returns-in_default-clause-complete
returns-in_default-clause-complete g c = record {
  memory = λ t r v live reads shallow converts.
      let (a, b, x, y, is_a, is_b, list, deep) = two g.T.Deserialize.convert c.args.de.now t r v reads shallow converts in
      let both = c.in_ok-seq.ensures.opens.left _ r live list deep in
      absurd (rw c.in_default.is at c.in_ok-low.ensures.left _ r both);
}

pub returns-in_err-high-clause-complete : goal.returns-in_err-high-clause-complete
returns-in_err-high-clause-complete g c = completes_as _ _ _ _ c.from_residual-in_err-high.ensures.1 (λ t r v live reads shallow converts.
    let (a, b, x, y, is_a, is_b, list, deep) = two g.T.Deserialize.convert c.args.de.now t r v reads shallow converts in
    let both = c.in_ok-seq.ensures.opens.left _ r live list deep in
    let (same, one) = rw c.in-Some.is at c.in_ok-low.ensures.left _ r both in
    c.in_err-high.ensures.left _ r one y is_b)

pub returns-in_default-2-clause-complete : goal.returns-in_default-2-clause-complete
returns-in_default-2-clause-complete g c = record {
  memory = λ t r v live reads shallow converts.
      let (a, b, x, y, is_a, is_b, list, deep) = two g.T.Deserialize.convert c.args.de.now t r v reads shallow converts in
      let both = c.in_ok-seq.ensures.opens.left _ r live list deep in
      let (same, one) = rw c.in-Some.is at c.in_ok-low.ensures.left _ r both in
      absurd (rw c.in_default-2.is at c.in_ok-high.ensures.left _ r one);
}

pub returns-in_err-end-clause-complete : goal.returns-in_err-end-clause-complete
returns-in_err-end-clause-complete g c = completes_as _ _ _ _ c.from_residual-in_err-end.ensures.1 (λ t r v live reads shallow converts.
    let (a, b, x, y, is_a, is_b, list, deep) = two g.T.Deserialize.convert c.args.de.now t r v reads shallow converts in
    let both = c.in_ok-seq.ensures.opens.left _ r live list deep in
    let (same, one) = rw c.in-Some.is at c.in_ok-low.ensures.left _ r both in
    let (same_too, none) = rw c.in-Some-2.is at c.in_ok-high.ensures.left _ r one in
    absurd (false≢true ((c.in_err-end.ensures.alone (search rules)).left r none)))
