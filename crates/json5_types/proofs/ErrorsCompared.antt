-- Faults are equal exactly when they say the same and have the same position, or no position.
use Rattle.std.proofs.Common.{◌≡◌, ◌∙◌, ℕ, refl, ap, Option, Some, None, ◌==◌, ◌&&◌, string_bytes}
use Rattle.std.specs.Bool.{Decides}
use Rattle.std.specs.String.{string_eq}
use Rattle.std.specs.Option.{option_eq}
use Rattle.std.specs.Cmp.Lexicographic.{bytes_decides}
use Rattle.std.proofs.lemmas.Bool.Decides.{Decides-and, Decides-like, Decides-eqb}
use denote.Enum.Bare.{same_true, true_same}
use Rattle.json5_grammar.specs.declared.error_code.ErrorCode.{ErrorCode}
use Rattle.json5_grammar.specs.declared.position.Position.{Position}
use Rattle.json5_grammar.specs.contracts.error_code.ErrorCode.{the_type}
use Rattle.json5_grammar.specs.contracts.error_code.ErrorCodePartialEq.TheImpl as codes
use Rattle.json5_grammar.specs.contracts.position.PositionPartialEq.TheImpl as position
use Rattle.json5_types.specs.contracts.error.ContentPartialEq.TheImpl as content
use Rattle.json5_types.specs.declared.error.Error.{Error}
use Rattle.json5_types.specs.declared.error.Content.{Content}
use Rattle.json5_types.specs.declared.error.Content.TheVariants.{Code, Custom, FailedWrite}
use Rattle.json5_types.specs.Errors.{code, custom, kind_of, kind_of_content, error_position}
use Rattle.json5_types.specs.ErrorEquality.{same_fault}

codes_same : (a b : ErrorCode) → Decides (codes.ghosts.eq a b) (a ≡ b)
codes_same a b = (same_true the_type tt a b, true_same the_type a b)

abbrev make : ℕ → ℕ → Position
make l c = record { line = l; column = c }

positions_same : (p q : Position) → Decides (position.ghosts.eq p q) (p ≡ q)
positions_same p q = Decides-like (p.line == q.line && p.column == q.column) (λ e. ap (λ l. make l p.column) e.0 ∙ ap (λ c. make q.line c) e.1) (λ e. (ap (λ (r : Position). r.line) e, ap (λ (r : Position). r.column) e)) (Decides-and _ _ (Decides-eqb p.line q.line) (Decides-eqb p.column q.column))

contents_same : (x y : Content) → Decides (content.ghosts.eq x y) (kind_of_content x ≡ kind_of_content y)
contents_same (Code a) (Code b) = Decides-like (codes.ghosts.eq a b) (λ e. ap code e) (λ e. cc) (codes_same a b)
contents_same (Code a) (Custom t) = (λ e. cc, λ e. cc)
contents_same (Code a) FailedWrite = (λ e. cc, λ e. cc)
contents_same (Custom s) (Code b) = (λ e. cc, λ e. cc)
contents_same (Custom s) (Custom t) = Decides-like (string_eq s t) (λ e. ap custom e) (λ e. cc) (bytes_decides (string_bytes s) (string_bytes t))
contents_same (Custom s) FailedWrite = (λ e. cc, λ e. cc)
contents_same FailedWrite (Code b) = (λ e. cc, λ e. cc)
contents_same FailedWrite (Custom t) = (λ e. cc, λ e. cc)
contents_same FailedWrite FailedWrite = (λ e. refl, λ e. refl)

places_same : (p q : Option Position) → Decides (option_eq position.ghosts.eq p q) (p ≡ q)
places_same None None = (λ e. refl, λ e. refl)
places_same None (Some q) = (λ e. cc, λ e. cc)
places_same (Some p) None = (λ e. cc, λ e. cc)
places_same (Some p) (Some q) = Decides-like (position.ghosts.eq p q) (λ e. ap Some e) (λ e. cc) (positions_same p q)

pub faults_same : (x y : Error) → Decides (same_fault x y) ((kind_of x ≡ kind_of y) × (error_position x ≡ error_position y))
faults_same x y = Decides-and _ _ (contents_same x.content y.content) (places_same x.position y.position)
