-- Elements and members without the comma after them, which is written with what follows. Private clauses and proofs alone cite it.
-- A promise rests on this.
use Rattle.std.specs.Prelude.{ℕ, Bool, true, false, [], ◌∷◌}
use Rattle.json5_grammar.specs.Language.Characters.{comma_sign, colon_sign, space}
use Rattle.json5_write.specs.WrittenTrees.{WrittenKey, Written}
use Rattle.json5_write.specs.Out.{Out, piece, ◌then◌, line, out, key_part, closed_by}

-- the text, after a comma where one is due
abbrev pub comma_before : Bool → Out → Out
comma_before true o = piece (comma_sign ∷ []) then o
comma_before false o = o

-- the line of an element within d brackets, without the comma after it
abbrev pub element_line : ℕ → ℕ → Written → Out
element_line limit d t = piece (line d) then out limit t d

-- the line of a member of an object
abbrev pub member_line : ℕ → ℕ → WrittenKey → Written → Out
member_line limit d k t = key_part d k then (piece (colon_sign ∷ space ∷ []) then out limit t d)

-- what closes a collection within d brackets, after the comma of its last element or member, if it has one
abbrev pub closed_after : Bool → ℕ → ℕ → Out
closed_after due d bracket = comma_before due (closed_by d due bracket)
