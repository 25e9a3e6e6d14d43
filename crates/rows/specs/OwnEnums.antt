-- What the enums of the rows stand for, whose impls are written by hand.
-- A promise rests on this.
use Rattle.std.specs.Prelude.{◌==◌, ◌^◌, ℕ, ℤ, Bool, if◌then◌else◌, List, [], ◌∷◌, Option, Some, None, codes}
use Rattle.std.specs.Str.{chars}
use Rattle.json5.specs.WrittenTrees.{Written, Elements, element, no_element, Fields, field, no_field, text, null, integer, newtype_variant, tuple_variant, struct_variant, WrittenKey, named, bad}
use Rattle.json5.specs.Trees.{Tree}
use Rattle.json5.specs.Collections.{array_of, object_of}
use Rattle.json5.specs.Convert.{unit_of, signed_below, index_of}
use Rattle.json5.specs.ConvertLists.{first_of, last_of}
use Rattle.json5.specs.Plans.{Plan, plan_required, plan_and}
use Rattle.json5.specs.Refinement.{if_more}
use Rattle.json5.specs.Variants.{Variant, unit, holding}
use Rattle.rows.specs.declared.own_enums.F.{F}
use Rattle.rows.specs.declared.own_enums.F.TheVariants.{A, B, C}
use Rattle.rows.specs.declared.own_enums.E.{E}
use Rattle.rows.specs.declared.own_enums.E.TheVariants.{W, X, Y, Z}

-- ---- F

pub data OfF : Type 0 where
  an_a : OfF
  a_b : OfF
  a_c : OfF

abbrev pub f_content : F → OfF
f_content A = an_a
f_content B = a_b
f_content (C u) = a_c

abbrev pub f_a : Variant OfF
f_a = unit (codes "A") an_a

abbrev pub f_b : Variant OfF
f_b = unit (codes "B") a_b

abbrev pub f_c : Variant OfF
f_c = holding (codes "C") unit_of (λ u. a_c)

abbrev pub f_variants : List (Variant OfF)
f_variants = f_a ∷ f_b ∷ f_c ∷ []

-- what is written of it
abbrev pub f_tree : F → Written
f_tree A = text (chars (codes "A"))
f_tree B = text (chars (codes "B"))
f_tree (C u) = newtype_variant (chars (codes "C")) null

abbrev pub f_names : List (List ℕ)
f_names = codes "A" ∷ codes "B" ∷ codes "C" ∷ []

-- the variant at this place, where a key can name it
abbrev pub f_at : ℕ → Option OfF
f_at k = if k == 0 then Some an_a else if k == 1 then Some a_b else None

-- what the text of a key names
abbrev pub f_named : List ℕ → Bool → Option OfF
f_named u escape_free = if_more f_at (index_of f_names u escape_free)

-- what is written of it as a key
abbrev pub f_key : F → WrittenKey
f_key A = named (chars (codes "A"))
f_key B = named (chars (codes "B"))
f_key (C u) = bad

-- ---- E

pub data OfE : Type 0 where
  a_w : ℤ × ℤ → OfE
  an_x : ℤ × ℤ → OfE
  a_y : ℤ → OfE
  a_z : OfE

abbrev pub e_content : E → OfE
e_content (W a b) = a_w (a, b)
e_content (X first second) = an_x (first, second)
e_content (Y number) = a_y number
e_content Z = a_z

abbrev pub i32_of : Tree → Option ℤ
i32_of = signed_below (2 ^ 31)

abbrev pub w_read : Plan (Option ℤ × Option ℤ) (ℤ × ℤ)
w_read = plan_and (plan_required (codes "a") i32_of) (plan_required (codes "b") i32_of)

abbrev pub e_w : Variant OfE
e_w = holding (codes "W") (object_of w_read.convert) a_w

abbrev pub e_x : Variant OfE
e_x = holding (codes "X") (array_of (first_of i32_of (last_of i32_of))) an_x

abbrev pub e_y : Variant OfE
e_y = holding (codes "Y") i32_of a_y

abbrev pub e_z : Variant OfE
e_z = unit (codes "Z") a_z

abbrev pub e_variants : List (Variant OfE)
e_variants = e_w ∷ e_x ∷ e_y ∷ e_z ∷ []

-- what is written of it
abbrev pub w_fields : ℤ → ℤ → Fields
w_fields a b = field (named (chars (codes "a"))) (integer a) (field (named (chars (codes "b"))) (integer b) no_field)

abbrev pub w_tree : ℤ → ℤ → Written
w_tree a b = struct_variant (chars (codes "W")) (w_fields a b)

abbrev pub x_elements : ℤ → ℤ → Elements
x_elements first second = element (integer first) (element (integer second) no_element)

abbrev pub x_tree : ℤ → ℤ → Written
x_tree first second = tuple_variant (chars (codes "X")) (x_elements first second)

abbrev pub e_tree : E → Written
e_tree (W a b) = w_tree a b
e_tree (X first second) = x_tree first second
e_tree (Y number) = newtype_variant (chars (codes "Y")) (integer number)
e_tree Z = text (chars (codes "Z"))
