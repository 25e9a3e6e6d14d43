use Rattle.std.proofs.Common.{refl, codes, Option, None}
use Rattle.json5.specs.Trees.{Tree}
use Rattle.json5.proofs.Structs.{Part, here, in_first, in_others, other, pass, not_named, takes_field, passes_pair}
use Rattle.test_memory.specs.Sample.{sample}
use Rattle.test_memory.proofs.sample.FoundFields.read.Goals as goal

module _ {A S B : Type 0} (list : Tree → Option A) (text : Tree → Option S) (map : Tree → Option B) where
  abbrev a : Part (sample list text map).step (codes "a") list
  a = in_first here (pass (other _ (codes "s") refl) (other _ (codes "b") refl))

  abbrev s : Part (sample list text map).step (codes "s") text
  s = in_others (other _ (codes "a") refl) (in_first here (other _ (codes "b") refl))

  abbrev b : Part (sample list text map).step (codes "b") map
  b = in_others (other _ (codes "a") refl) (in_others (other _ (codes "s") refl) here)

pub returns-in-a-clause-takes : goal.returns-in-a-clause-takes
returns-in-a-clause-takes g c = rw c.in-a.is (takes_field (None, _) (a _ _ _) c.next_field.ensures.reads)

pub returns-in-s-clause-takes : goal.returns-in-s-clause-takes
returns-in-s-clause-takes g c = rw c.in-s.is (takes_field (_, (None, _)) (s _ _ _) c.next_field-in-s.ensures.reads)

pub returns-in-b-clause-takes : goal.returns-in-b-clause-takes
returns-in-b-clause-takes g c = rw c.in-b.is (takes_field (_, (_, None)) (b _ _ _) c.next_field-in-b.ensures.reads)

pub returns-in_default-clause-takes : goal.returns-in_default-clause-takes
returns-in_default-clause-takes g c =
    passes_pair (pass (not_named _ c.in_default.not-a) (pass (not_named _ c.in_default.not-s) (not_named _ c.in_default.not-b))) c.skip_value.ensures.passes
