-- Which faults are equal, and that this is an equivalence.
-- A promise rests on this.
use Rattle.std.specs.Prelude.{Bool, ◌&&◌}
use Rattle.std.specs.Option.{option_eq}
use Rattle.std.specs.Cmp.{IsEquivalence, on_equiv, and_equiv}
use Rattle.std.specs.Cmp.Lexicographic.{options_equiv}
use Rattle.json5_grammar.specs.contracts.position.PositionPartialEq.TheImpl as position
use Rattle.json5_grammar.specs.contracts.position.PositionEq.TheImpl.Laws as position_laws
use Rattle.json5_types.specs.contracts.error.ContentPartialEq.TheImpl as content
use Rattle.json5_types.specs.contracts.error.ContentEq.TheImpl.Laws as content_laws
use Rattle.json5_types.specs.declared.error.Error.{Error}

-- `x == y`
abbrev pub same_fault : Error → Error → Bool
same_fault x y = content.ghosts.eq x.content y.content && option_eq position.ghosts.eq x.position y.position

pub same_fault_equiv : IsEquivalence same_fault
same_fault_equiv = and_equiv (on_equiv (λ (e : Error). e.content) content_laws.laws-law) (on_equiv (λ (e : Error). e.position) (options_equiv position_laws.laws-law))
