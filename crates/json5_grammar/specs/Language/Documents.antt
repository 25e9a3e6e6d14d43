-- Documents, and readable prefixes. The nesting limit is a parameter.
-- A promise rests on this.
use Rattle.std.specs.Prelude.{◌≡◌, ℕ, ◌≤◌, List, ◌++◌}
use Rattle.json5_grammar.specs.Language.Blanks.{Blanks, LastBlanks}
use Rattle.json5_grammar.specs.Language.Trees.{Tree, depth}
use Rattle.json5_grammar.specs.Language.Values.{Val}

-- the nesting limit of the public calls
abbrev pub max_depth : ℕ
max_depth = 128

-- x is a document with the tree t, nested at most `limit` deep
pub record Doc (limit : ℕ) (x : List ℕ) (t : Tree) : Type 0 where
  pub before : List ℕ
  pub text : List ℕ
  pub after : List ℕ
  pub whole : x ≡ before ++ (text ++ after)
  pub blank : Blanks before
  pub value : Val text t
  pub last : LastBlanks after
  pub shallow : depth t ≤ limit

-- x begins a document
pub record Begins (limit : ℕ) (x : List ℕ) : Type 0 where
  pub more : List ℕ
  pub tree : Tree
  pub document : Doc limit (x ++ more) tree
