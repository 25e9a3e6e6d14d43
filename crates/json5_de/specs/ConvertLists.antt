-- What options and lists take of a tree.
-- A promise rests on this.
use Rattle.std.specs.Prelude.{◌==◌, ℕ, if◌then◌else◌, List, length, Option, Some, None}
use Rattle.json5_grammar.specs.Language.Trees.{Tree, Trees, null, boolean, number, text, array, object, no_more, more}
use Rattle.json5_grammar.specs.Model.Collections.{joint, contents}

-- some of what there is
abbrev pub if_some : {A B : Type 0} → (A → B) → Option A → Option B
if_some f None = None
if_some f (Some a) = Some (f a)

-- null is None; another tree that converts is Some
abbrev pub option_of : {C : Type 0} → (Tree → Option C) → Tree → Option (Option C)
option_of f null = Some None
option_of f (boolean b) = if_some Some (f (boolean b))
option_of f (number n) = if_some Some (f (number n))
option_of f (text u escape_free) = if_some Some (f (text u escape_free))
option_of f (array ts) = if_some Some (f (array ts))
option_of f (object ps) = if_some Some (f (object ps))

-- one element that converts, and no other
abbrev pub last_of : {A : Type 0} → (Tree → Option A) → Trees → Option A
last_of f no_more = None
last_of f (more t no_more) = f t
last_of f (more t (more u us)) = None

-- an element that converts, and then the others
abbrev pub first_of : {A B : Type 0} → (Tree → Option A) → (Trees → Option B) → Trees → Option (A × B)
first_of f g no_more = None
first_of f g (more t us) = joint (f t) (g us)

abbrev pub if_length : {C : Type 0} → ℕ → Option (List C) → Option (List C)
if_length n None = None
if_length n (Some cs) = if length cs == n then Some cs else None

-- so many elements, each of which converts
abbrev pub exactly : {C : Type 0} → ℕ → (Tree → Option C) → Trees → Option (List C)
exactly n f ts = if_length n (contents f ts)
