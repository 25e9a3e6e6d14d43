-- Trees: what an input says, whatever type it is read as. A string or a key has a mark, whether it was spelled without an escape.
-- A promise rests on this.
use Rattle.std.specs.Prelude.{ℕ, suc, max, Bool, List}
use Rattle.json5_grammar.specs.Language.Numbers.{Number}

mutual
  pub data Tree : Type 0 where
    null : Tree
    boolean : Bool → Tree
    number : Number → Tree
    text : List ℕ → Bool → Tree
    array : Trees → Tree
    object : Members → Tree

  pub data Trees : Type 0 where
    no_more : Trees
    more : Tree → Trees → Trees

  -- a key's string, whether it is escape-free, its value, and the members after it
  pub data Members : Type 0 where
    no_member : Members
    member : List ℕ → Bool → Tree → Members → Members

abbrev mutual
  pub depth : Tree → ℕ
  depth null = 0
  depth (boolean b) = 0
  depth (number n) = 0
  depth (text u escape_free) = 0
  depth (array ts) = suc (depths ts)
  depth (object ps) = suc (member_depths ps)

  pub depths : Trees → ℕ
  depths no_more = 0
  depths (more t ts) = max (depth t) (depths ts)

  pub member_depths : Members → ℕ
  member_depths no_member = 0
  member_depths (member u escape_free t ps) = max (depth t) (member_depths ps)
