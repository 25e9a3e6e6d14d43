-- What the steps of a course promise.
-- Private.
use Rattle.std.specs.Prelude.{◌≡◌, ◌≤◌, ◌<◌, ◌==◌, ℕ, Bool, true, false, List, [], ◌∷◌, Some, None, ⊤}
use Rattle.json5_grammar.specs.Language.Characters.{NotBegun}
use Rattle.json5_tokens.specs.Cursor.{Cursor, offset_of}
use Rattle.json5_types.specs.Cows.{cow_bytes}
use Rattle.json5_report.specs.declared.course.Crumb.{Crumb as Kept}
use Rattle.json5_report.specs.declared.course.Crumb.TheVariants as kept
use Rattle.json5_report.specs.declared.course.Open.{Open}
use Rattle.json5_report.specs.declared.course.Course.{Course}
use Rattle.json5_walk.specs.declared.next.Next.{Next}
use Rattle.json5_report.specs.Paths.{Crumb, whole, element, member, Step, closing, start_of}

abbrev pub shown_crumb : Kept → Crumb
shown_crumb kept.Document = whole
shown_crumb (kept.Array n) = element n
shown_crumb (kept.Object None) = member None
shown_crumb (kept.Object (Some name)) = member (Some (cow_bytes name))

abbrev pub crumb_of : Open → Crumb
crumb_of o = shown_crumb o.crumb

-- the crumbs of brackets, the outermost first, before those of o
abbrev pub crumbs_onto : List Crumb → List Open → List Crumb
crumbs_onto o [] = o
crumbs_onto o (c ∷ cs) = crumbs_onto (crumb_of c ∷ o) cs

-- what is open, the innermost first
abbrev pub open_in : Course → List Crumb
open_in c = crumb_of c.inner ∷ crumbs_onto [] c.outer.items

-- a token that ends by the offset was taken
pub record Advances (offset : ℕ) (s : Cursor) (c : Course) (t : Cursor) (d : Course) : Type 0 where
  pub step : Step c.due (open_in c) s.unread d.due (open_in d) t.unread
  pub by : offset_of t ≤ offset
  pub same : t.input ≡ s.input

-- no token ends by it
pub record Rests (offset : ℕ) (s : Cursor) (c d : Course) : Type 0 where
  pub same_due : d.due ≡ c.due
  pub same_open : open_in d ≡ open_in c
  pub last : (e : Next) (p : List Crumb) (y : List ℕ) → Step c.due (open_in c) s.unread e p y → offset < start_of s.input y

abbrev pub Turned : ℕ → Cursor → Course → Cursor → Course → Bool → Type 0
Turned offset s c t d true = Advances offset s c t d
Turned offset s c t d false = Rests offset s c d

-- the closing bracket isn't in front
abbrev pub NotClosed : Cursor → Course → Type 0
NotClosed s c = (k : ℕ) → closing c.due (crumb_of c.inner) ≡ Some k → NotBegun (λ h. h == k) s.unread

-- it isn't in front, and nothing was taken
pub record Unclosed (s : Cursor) (c : Course) (t : Cursor) (d : Course) : Type 0 where
  pub same : t ≡ s
  pub same_course : d ≡ c
  pub unclosed : NotClosed s c

-- an index is at most so much
abbrev pub AtMost : ℕ → Crumb → Type 0
AtMost k whole = ⊤
AtMost k (element n) = n ≤ k
AtMost k (member u) = ⊤
