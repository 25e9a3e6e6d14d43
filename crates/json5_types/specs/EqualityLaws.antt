-- What equality, hash and order agree on.
-- A promise rests on this.
use Rattle.std.specs.Prelude.{◌≡◌, ◌↔◌, Bool, IsTrue}
use Rattle.std.specs.declared.cmp.Ordering.{Ordering}
use Rattle.std.specs.declared.cmp.Ordering.TheVariants.{Equal}

-- the test is true exactly of what is the same
abbrev pub IsEquality : {A : Type 0} → (A → A → Bool) → Type 0
IsEquality {A} eq = (x y : A) → IsTrue (eq x y) ↔ (x ≡ y)

-- what has the same view has the same hash
abbrev pub HashesBy : {A B H : Type 0} → (A → B) → (A → H) → Type 0
HashesBy {A} view hash = (x y : A) → view x ≡ view y → hash x ≡ hash y

-- two compare as Equal exactly when their views are the same
abbrev pub OrdersBy : {A B : Type 0} → (A → B) → (A → A → Ordering) → Type 0
OrdersBy {A} view order = (x y : A) → order x y ≡ Equal ↔ view x ≡ view y
