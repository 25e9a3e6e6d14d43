-- Which strings and keys of a written tree are escape-free, and the tree without these marks.
-- A promise rests on this.
use Rattle.std.specs.Prelude.{ℕ, List, Bool, ◌||◌, not, ⊤}
use Rattle.json5_grammar.specs.Language.Strings.{holds_backslash}
use Rattle.json5_grammar.specs.Written.NumberText.{IsNumber}
use Rattle.json5_grammar.specs.Written.Quoting.{quoted_text, is_name}
use Rattle.json5_grammar.specs.Language.Trees as marked
use Rattle.json5_grammar.specs.Language.Trees.{Tree, Trees, Members, no_more, more, no_member, member}
use Rattle.json5_write.specs.WrittenTrees as written
use Rattle.json5_write.specs.WrittenTrees.{Written, Elements, no_element, element, Fields, no_field, field, named, bad}

-- the written string holds no backslash
abbrev pub is_escape_free_text : List ℕ → Bool
is_escape_free_text u = not (holds_backslash (quoted_text u))

-- the key is written bare, or as a string without a backslash
abbrev pub is_escape_free_key : List ℕ → Bool
is_escape_free_key u = is_name u || is_escape_free_text u

-- of a tree without a bad key
abbrev mutual
  pub marks : Written → Tree
  marks written.null = marked.null
  marks (written.boolean b) = marked.boolean b
  marks (written.number n) = marked.number n
  marks (written.text u) = marked.text u (is_escape_free_text u)
  marks (written.array ts) = marked.array (element_marks ts)
  marks (written.object fs) = marked.object (field_marks fs)

  pub element_marks : Elements → Trees
  element_marks no_element = no_more
  element_marks (element t ts) = more (marks t) (element_marks ts)

  pub field_marks : Fields → Members
  field_marks no_field = no_member
  field_marks (field (named u) t fs) = member u (is_escape_free_key u) (marks t) (field_marks fs)
  field_marks (field bad t fs) = field_marks fs

abbrev mutual
  pub unmarked : Tree → Written
  unmarked marked.null = written.null
  unmarked (marked.boolean b) = written.boolean b
  unmarked (marked.number n) = written.number n
  unmarked (marked.text u escape_free) = written.text u
  unmarked (marked.array ts) = written.array (unmarked_elements ts)
  unmarked (marked.object ps) = written.object (unmarked_fields ps)

  pub unmarked_elements : Trees → Elements
  unmarked_elements no_more = no_element
  unmarked_elements (more t ts) = element (unmarked t) (unmarked_elements ts)

  pub unmarked_fields : Members → Fields
  unmarked_fields no_member = no_field
  unmarked_fields (member u escape_free t ps) = field (named u) (unmarked t) (unmarked_fields ps)

-- each number has a spelling, and each key is a text
abbrev mutual
  pub IsSpelled : Written → Type 0
  IsSpelled written.null = ⊤
  IsSpelled (written.boolean b) = ⊤
  IsSpelled (written.number n) = IsNumber n
  IsSpelled (written.text u) = ⊤
  IsSpelled (written.array ts) = AreSpelled ts
  IsSpelled (written.object fs) = FieldsAreSpelled fs

  pub AreSpelled : Elements → Type 0
  AreSpelled no_element = ⊤
  AreSpelled (element t ts) = IsSpelled t × AreSpelled ts

  pub FieldsAreSpelled : Fields → Type 0
  FieldsAreSpelled no_field = ⊤
  FieldsAreSpelled (field (named u) t fs) = IsSpelled t × FieldsAreSpelled fs
  FieldsAreSpelled (field bad t fs) = ⊥
