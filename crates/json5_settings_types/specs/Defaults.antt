-- Fields whose defaults are made.
-- A promise rests on this.
use Rattle.std.proofs.Common.{ap}
use Rattle.std.specs.Prelude.{ℕ, List, Option, Some, None}
use Rattle.json5_grammar.specs.Language.Trees.{Tree}
use Rattle.json5_de.specs.Fields.{optional}
use Rattle.json5_de.specs.Plans.{unfilled}
use Rattle.json5_de.specs.Refinement.{if_more}
use Rattle.json5_fields.specs.Layouts.{Layout, one_field}

-- what was read, or else what the default converts to
abbrev pub or_default : {C : Type 0} → (Tree → Option C) → Tree → Option C → Option C
or_default f default None = f default
or_default f default (Some c) = Some c

-- a field that is read from the default if it is missing
abbrev pub field_or_tree : {C : Type 0} → Tree → List ℕ → (Tree → Option C) → Layout (Option C) C
field_or_tree default name f = one_field name f (or_default f default) (λ ps. if_more (or_default f default) (optional name f ps)) (λ ps. ap (if_more (or_default f default)) (unfilled f name ps))
