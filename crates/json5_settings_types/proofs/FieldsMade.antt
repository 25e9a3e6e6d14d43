-- A field that makes something else of what was read.
use Rattle.std.proofs.Common.{◌≡◌, ℕ, Bool, true, false, List, None, Option, Ok, Err}
use Rattle.std.specs.Prelude.{Result}
use Rattle.json5_grammar.specs.Language.Trees.{Tree, Members}
use Rattle.json5_types.specs.declared.error.Error.{Error}
use Rattle.json5_de.specs.Plans.{at_name, run}
use Rattle.json5_de.specs.Refinement.{if_more}
use Rattle.json5_de.specs.StructFaults.{ValueFaults}
use Rattle.json5_de.specs.declared.map.MapAccess.{MapAccess}
use Rattle.json5_fields.specs.FieldCalls.{TakesHere, Tries}
use Rattle.json5_fields.specs.Layouts.{one_field}

module _ {C D F : Type 0} (name : List ℕ) (f : Tree → Option C) (build : Option C → Option D) (convert : Members → Option D) (says : (ps : Members) → convert ps ≡ if_more build (run (at_name f name) None ps))
    (other : Option C → Option F) (made : Members → Option F) (says_other : (ps : Members) → made ps ≡ if_more other (run (at_name f name) None ps)) where
  takes_so : {I : Type 0} (faults : ValueFaults) (s n : Option C) (u : List ℕ) (old new : MapAccess I) (result : Result (Unit {0}) Error) → TakesHere (one_field name f build convert says) faults s n u old new result → TakesHere (one_field name f other made says_other) faults s n u old new result
  takes_so faults s n u old new result is = record { named = is.named; takes = is.takes; refused = is.refused; access = is.access; pending = is.pending }

  -- it is tried in the same way
  pub tries_so : {I : Type 0} (faults : ValueFaults) (s n : Option C) (u : List ℕ) (old new : MapAccess I) (result : Result Bool Error) → Tries (one_field name f build convert says) faults s n u old new result → Tries (one_field name f other made says_other) faults s n u old new result
  tries_so faults s n u old new (Ok true) is = takes_so faults s n u old new (Ok tt) is
  tries_so faults s n u old new (Ok false) is = record { other = is.other; fields = is.fields; access = is.access }
  tries_so faults s n u old new (Err e) is = takes_so faults s n u old new (Err e) is
