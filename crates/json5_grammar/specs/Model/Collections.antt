-- Arrays and objects from their front: the elements or members one after another, and the closing sign.
-- A promise rests on this.
-- JSON5 sections 3 and 4 (objects and arrays; a comma is allowed after the last element or member).
use Rattle.std.specs.Prelude.{◌≡◌, ◌⊎◌, ℕ, Bool, true, false, List, [], ◌∷◌, ◌++◌, Option, Some, None}
use Rattle.json5_grammar.specs.Language.Characters.{comma_sign, colon_sign, left_bracket, right_bracket, left_brace, right_brace}
use Rattle.json5_grammar.specs.Language.Blanks.{Blanks}
use Rattle.json5_grammar.specs.Language.Names.{Key}
use Rattle.json5_grammar.specs.Language.Trees.{Tree, Trees, Members, null, boolean, number, text, array, object, no_more, more, no_member, member}
use Rattle.json5_grammar.specs.Language.Values.{Reads}

-- x begins with blanks and the sign, and r is left after it
pub record IsSign (sign : ℕ) (x r : List ℕ) : Type 0 where
  pub front : List ℕ
  pub split : x ≡ front ++ sign ∷ r
  pub blank : Blanks front

-- x goes on with blanks and the closing sign, where a comma is due also after one comma, and r is left after the sign
abbrev pub IsEnd : ℕ → Bool → List ℕ → List ℕ → Type 0
IsEnd sign false x r = IsSign sign x r
IsEnd sign true x r = IsSign sign x r ⊎ ((y : List ℕ) × IsSign comma_sign x y × IsSign sign y r)

-- ---- arrays

-- x begins with blanks and the opening bracket, and r is left after it
abbrev pub Opens : List ℕ → List ℕ → Type 0
Opens x r = IsSign left_bracket x r

-- x goes on with an element of the tree t, after blanks and a comma where one is due, and r is left
abbrev pub IsElement : Bool → List ℕ → Tree → List ℕ → Type 0
IsElement false x t r = Reads x t r
IsElement true x t r = (y : List ℕ) × IsSign comma_sign x y × Reads y t r

-- x goes on with blanks and the closing bracket, where a comma is due also after one comma, and r is left after the bracket
abbrev pub IsClose : Bool → List ℕ → List ℕ → Type 0
IsClose comma_due x r = IsEnd right_bracket comma_due x r

-- the same, but the bracket is still unread: y begins with it
abbrev pub IsAtClose : Bool → List ℕ → List ℕ → Type 0
IsAtClose comma_due x y = (r : List ℕ) × IsClose comma_due x r × (y ≡ right_bracket ∷ r)

-- x goes on with these elements and the closing bracket, and r is left after it
abbrev pub Tail : Trees → Bool → List ℕ → List ℕ → Type 0
Tail no_more comma_due x r = IsClose comma_due x r
Tail (more t ts) comma_due x r = (y : List ℕ) × IsElement comma_due x t y × Tail ts true y r

-- from x these elements are read, and y is left; a comma is due before them, and then after them
abbrev pub Passed : Trees → Bool → List ℕ → Bool → List ℕ → Type 0
Passed no_more comma_due x now y = (comma_due ≡ now) × (x ≡ y)
Passed (more t ts) comma_due x now y = (z : List ℕ) × IsElement comma_due x t z × Passed ts true z now y

-- ---- objects

-- x begins with blanks and a key that means u, and r is left
pub record ReadsKey (x u : List ℕ) (escape_free : Bool) (r : List ℕ) : Type 0 where
  pub front : List ℕ
  pub spelling : List ℕ
  pub split : x ≡ front ++ (spelling ++ r)
  pub blank : Blanks front
  pub key : Key spelling r u escape_free

-- x begins with blanks and the opening brace, and r is left after it
abbrev pub OpensObject : List ℕ → List ℕ → Type 0
OpensObject x r = IsSign left_brace x r

-- x goes on with a key that means u, after blanks and a comma where one is due, and r is left
abbrev pub IsKey : Bool → List ℕ → List ℕ → Bool → List ℕ → Type 0
IsKey false x u escape_free r = ReadsKey x u escape_free r
IsKey true x u escape_free r = (y : List ℕ) × IsSign comma_sign x y × ReadsKey y u escape_free r

-- x goes on with blanks, a colon and a value of the tree t, and r is left
abbrev pub IsKeyValue : List ℕ → Tree → List ℕ → Type 0
IsKeyValue x t r = (y : List ℕ) × IsSign colon_sign x y × Reads y t r

-- x goes on with blanks and the closing brace, where a comma is due also after one comma, and r is left after the brace
abbrev pub IsBrace : Bool → List ℕ → List ℕ → Type 0
IsBrace comma_due x r = IsEnd right_brace comma_due x r

-- the same, but the brace is still unread: y begins with it
abbrev pub IsAtBrace : Bool → List ℕ → List ℕ → Type 0
IsAtBrace comma_due x y = (r : List ℕ) × IsBrace comma_due x r × (y ≡ right_brace ∷ r)

-- x goes on with these members and the closing brace, and r is left after it
abbrev pub MembersTail : Members → Bool → List ℕ → List ℕ → Type 0
MembersTail no_member comma_due x r = IsBrace comma_due x r
MembersTail (member u escape_free t ps) comma_due x r = (y : List ℕ) × (z : List ℕ) × IsKey comma_due x u escape_free y × IsKeyValue y t z × MembersTail ps true z r

-- from x these members are read, and y is left; a comma is due before them, and then after them
abbrev pub MembersPassed : Members → Bool → List ℕ → Bool → List ℕ → Type 0
MembersPassed no_member comma_due x now y = (comma_due ≡ now) × (x ≡ y)
MembersPassed (member u escape_free t ps) comma_due x now y = (k : List ℕ) × (z : List ℕ) × IsKey comma_due x u escape_free k × IsKeyValue k t z × MembersPassed ps true z now y

-- x goes on with no key and no closing brace
pub record NoMemberGoes (comma_due : Bool) (x : List ℕ) : Type 0 where
  pub no_key : (u : List ℕ) (escape_free : Bool) (r : List ℕ) → IsKey comma_due x u escape_free r → ⊥
  pub no_brace : (r : List ℕ) → IsBrace comma_due x r → ⊥

-- ---- lists of trees and of members

-- the trees, and one more at their end
abbrev pub snoc : Trees → Tree → Trees
snoc no_more u = more u no_more
snoc (more t ts) u = more t (snoc ts u)

-- the trees, and others after them
abbrev pub joined_trees : Trees → Trees → Trees
joined_trees no_more us = us
joined_trees (more t ts) us = more t (joined_trees ts us)

-- the members, and one more at their end
abbrev pub snoc_member : Members → List ℕ → Bool → Tree → Members
snoc_member no_member u escape_free t = member u escape_free t no_member
snoc_member (member v other s ps) u escape_free t = member v other s (snoc_member ps u escape_free t)

-- the members, and others after them
abbrev pub joined_members : Members → Members → Members
joined_members no_member qs = qs
joined_members (member u escape_free t ps) qs = member u escape_free t (joined_members ps qs)

-- ---- contents

abbrev pub both : {C : Type 0} → Option C → Option (List C) → Option (List C)
both None cs = None
both (Some c) None = None
both (Some c) (Some cs) = Some (c ∷ cs)

-- each tree's content, where each has one
abbrev pub contents : {C : Type 0} → (Tree → Option C) → Trees → Option (List C)
contents convert no_more = Some []
contents convert (more t ts) = both (convert t) (contents convert ts)

-- an array's content, from its elements
abbrev pub array_of : {C : Type 0} → (Trees → Option C) → Tree → Option C
array_of convert null = None
array_of convert (boolean b) = None
array_of convert (number n) = None
array_of convert (text u escape_free) = None
array_of convert (array ts) = convert ts
array_of convert (object ps) = None

abbrev pub joint : {K V : Type 0} → Option K → Option V → Option (K × V)
joint None v = None
joint (Some k) None = None
joint (Some k) (Some v) = Some (k, v)

-- each member's key and value, where each has a content; a key's content may depend on whether it is escape-free
abbrev pub pair_contents : {K V : Type 0} → (List ℕ → Bool → Option K) → (Tree → Option V) → Members → Option (List (K × V))
pair_contents keys values no_member = Some []
pair_contents keys values (member u escape_free t ps) = both (joint (keys u escape_free) (values t)) (pair_contents keys values ps)

-- an object's content, from its members
abbrev pub object_of : {C : Type 0} → (Members → Option C) → Tree → Option C
object_of convert null = None
object_of convert (boolean b) = None
object_of convert (number n) = None
object_of convert (text u escape_free) = None
object_of convert (array ts) = None
object_of convert (object ps) = convert ps
