-- Texts are equal, and compare as Equal, exactly when their bytes are the same.
use Rattle.std.proofs.Common.{◌≡◌, ◌↔◌, ℕ, List, nat_eq, sym, ap, ◌∙◌}
use Rattle.std.specs.Bool.{Decides}
use Rattle.std.specs.Ordering.{is_eq, nat_cmp}
use Rattle.std.specs.declared.cmp.Ordering.TheVariants.{Equal}
use Rattle.std.specs.Cmp.{Equal-is}
use Rattle.std.specs.Cmp.Lexicographic.{pointwise, bytes_decides, slice_cmp, texts_ties}

pub texts_same : (x y : List ℕ) → Decides (pointwise nat_eq x y) (x ≡ y)
texts_same x y = bytes_decides x y

-- texts compare as Equal exactly when they are the same
pub same_place : (x y : List ℕ) → (slice_cmp nat_cmp x y ≡ Equal) ↔ (x ≡ y)
same_place x y = (λ e. (bytes_decides x y).0 (texts_ties x y ∙ ap is_eq e), λ e. (Equal-is (slice_cmp nat_cmp x y)).0 (sym (texts_ties x y) ∙ (bytes_decides x y).1 e))
