-- What is written: a tree, with the keys of an object in order.
-- A promise rests on this.
use Rattle.std.specs.Prelude.{ℕ, List, [], ◌∷◌, Bool, ℤ, pos, Option, None, Some}
use Rattle.json5_grammar.specs.Language.Numbers.{Number, whole}
use Rattle.json5_grammar.specs.Written.NumberText.{number_text}

-- a key is a text, or what can't be a key
pub data WrittenKey : Type 0 where
  named : List ℕ → WrittenKey
  bad : WrittenKey

mutual
  pub data Written : Type 0 where
    null : Written
    boolean : Bool → Written
    number : Number → Written
    text : List ℕ → Written
    array : Elements → Written
    object : Fields → Written

  pub data Elements : Type 0 where
    no_element : Elements
    element : Written → Elements → Elements

  pub data Fields : Type 0 where
    no_field : Fields
    field : WrittenKey → Written → Fields → Fields

-- whole numbers
abbrev pub integer : ℤ → Written
integer z = number (whole z)

abbrev pub natural : ℕ → Written
natural n = integer (pos n)

-- the trees of the values of a list
abbrev pub elements_of : {A : Type 0} → (A → Written) → List A → Elements
elements_of tree [] = no_element
elements_of tree (x ∷ xs) = element (tree x) (elements_of tree xs)

abbrev pub option_tree : {A : Type 0} → (A → Written) → Option A → Written
option_tree tree None = null
option_tree tree (Some x) = tree x

-- a variant that holds something: an object of its name and of that
abbrev pub newtype_variant : List ℕ → Written → Written
newtype_variant name t = object (field (named name) t no_field)

abbrev pub tuple_variant : List ℕ → Elements → Written
tuple_variant name ts = newtype_variant name (array ts)

abbrev pub struct_variant : List ℕ → Fields → Written
struct_variant name fs = newtype_variant name (object fs)

-- the fields of the entries of a map
abbrev pub fields_of : {K V : Type 0} → (K → WrittenKey) → (V → Written) → List (K × V) → Fields
fields_of key tree [] = no_field
fields_of key tree (e ∷ es) = field (key e.0) (tree e.1) (fields_of key tree es)

-- the decimal digits
abbrev pub integer_key : ℤ → WrittenKey
integer_key z = named (number_text (whole z))

abbrev pub natural_key : ℕ → WrittenKey
natural_key n = integer_key (pos n)

-- None is no key
abbrev pub option_key : {A : Type 0} → (A → WrittenKey) → Option A → WrittenKey
option_key key None = bad
option_key key (Some x) = key x
