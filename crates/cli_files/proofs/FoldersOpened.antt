-- Names that are left to look at, and what they stand for.
use Rattle.std.proofs.Common.{◌≡◌, inl, inr, ℕ, List, [], ◌∷◌, ◌++◌, refl, sym, ap, ◌∙◌, subst, append_assoc, cond}
use Rattle.std.specs.declared.alloc.Global.{Global}
use Rattle.std.specs.Prelude.{String, string_bytes, string_cmp, Some, None, reverse, Result, Ok, Err, OnOk, is_ok}
use Rattle.std.specs.List.Sorted.{IsPermutation, IsSorted}
use Rattle.std.proofs.lemmas.List.{map-append, reverse-append, reverse-reverse, append-nil}
use Rattle.std.proofs.lemmas.List.Sorted.{IsPermutation-map}
use Rattle.cli_files.specs.declared.stores.Entry.TheVariants as entry
use Rattle.cli_files.specs.Folders.{AreBelow, none, file, unsought, unknown, other, passed, left_alone, folder, unread, read, IsPassedOver}
use Rattle.cli_files.specs.NameLists.{names_of}
use Rattle.cli_files.specs.declared.ignores.Ignores.{Ignores}
use Rattle.cli_files.specs.Ignores.{Backs}
use Rattle.cli_files.specs.FolderSteps.{Leads, Opens, Gathering, Gathers, TakesFile, TakesFolder, left_of}
use Rattle.cli_files.specs.Stores.{Known}

pub on_ok : {T E P Q : Type 0} (r : Result T E) → (P → Q) → OnOk r P → OnOk r Q
on_ok (Ok x) f k = f k
on_ok (Err e) f k = tt

-- the reversed names were appended
pub appended : {T E : Type 0} (old new names sorted : List (String Global)) (r : Result T E) → new ≡ cond (is_ok r) (old ++ names) old → names ≡ reverse sorted → OnOk r (new ≡ old ++ reverse sorted)
appended old new names sorted (Ok x) is order = is ∙ ap (λ l. old ++ l) order
appended old new names sorted (Err e) is order = tt

module _ (known : Known) (endings excluded : List (String Global)) where
  -- what two lists of names stand for is what both do, one after the other
  parts : (xs ys more : List (List ℕ)) → AreBelow known endings excluded (xs ++ ys) more
      → (a b : List (List ℕ)) × AreBelow known endings excluded xs a × AreBelow known endings excluded ys b × (more ≡ a ++ b)
  parts [] ys more k = ([], more, none, k, refl)
  parts (x ∷ xs) ys _ (file {found = found} name is sought k) = let (a, b, ka, kb, e) = parts xs ys found k in (x ∷ a, b, file x is sought ka, kb, ap (λ l. x ∷ l) e)
  parts (x ∷ xs) ys more (unsought name is unwanted k) = let (a, b, ka, kb, e) = parts xs ys more k in (a, b, unsought x is unwanted ka, kb, e)
  parts (x ∷ xs) ys _ (unknown {found = found} name is k) = let (a, b, ka, kb, e) = parts xs ys found k in (x ∷ a, b, unknown x is ka, kb, ap (λ l. x ∷ l) e)
  parts (x ∷ xs) ys more (other name is k) = let (a, b, ka, kb, e) = parts xs ys more k in (a, b, other x is ka, kb, e)
  parts (x ∷ xs) ys more (passed name is p k) = let (a, b, ka, kb, e) = parts xs ys more k in (a, b, passed x is p ka, kb, e)
  parts (x ∷ xs) ys more (left_alone name rules k) = let (a, b, ka, kb, e) = parts xs ys more k in (a, b, left_alone x rules ka, kb, e)
  parts (x ∷ xs) ys _ (folder {inner = inner} {found = found} name is p below k) =
      let (a, b, ka, kb, e) = parts xs ys found k in (inner ++ a, b, folder x is p below ka, kb, ap (λ l. inner ++ l) e ∙ sym (append_assoc inner a b))

  nothing : (more : List (List ℕ)) → AreBelow known endings excluded [] more → more ≡ []
  nothing more none = refl

  -- a folder that can't be read is found itself
  pub opens_unread : (name : List ℕ) (left found new_found : List (String Global)) → known.lists name None → names_of new_found ≡ names_of found ++ name ∷ []
      → Opens known endings excluded name left found left new_found
  opens_unread name left found new_found is e more k =
      (name ∷ [], more, unread is, k, sym (append_assoc (names_of found) (name ∷ []) more) ∙ ap (λ l. l ++ more) (sym e))

  -- the names of what is in a folder come in front of those that are left
  pub opens_read : (name : List ℕ) (left found names sorted new_left : List (String Global)) → known.lists name (Some (names_of names)) → IsPermutation names sorted → IsSorted string_cmp sorted
      → new_left ≡ left ++ reverse sorted → Opens known endings excluded name left found new_left found
  opens_read name left found names sorted new_left is order sorts e more k =
      let same : left_of new_left ≡ names_of sorted ++ left_of left =
      ap left_of e ∙ ap names_of (reverse-append left (reverse sorted) ∙ ap (λ l. l ++ reverse left) (reverse-reverse sorted)) ∙ map-append string_bytes sorted (reverse left) in
      let (a, b, ka, kb, both) = parts (names_of sorted) (left_of left) more (subst (λ l. AreBelow known endings excluded l more) same k) in
      (a, b, read (names_of names) sorted is (IsPermutation-map string_bytes names sorted order) sorts ka, kb, ap (λ l. names_of found ++ l) (sym both))

  -- ---- the work on one name

  pub leads_past : (name : List ℕ) (left found : List (String Global)) → ((names more : List (List ℕ)) → AreBelow known endings excluded names more → AreBelow known endings excluded (name ∷ names) more)
      → Leads known endings excluded (name ∷ left_of left) found left found
  leads_past name left found step more k = (more, step _ more k, refl)

  pub leads_found : (name : List ℕ) (left found new_found : List (String Global)) → ((names more : List (List ℕ)) → AreBelow known endings excluded names more → AreBelow known endings excluded (name ∷ names) (name ∷ more))
      → names_of new_found ≡ names_of found ++ name ∷ [] → Leads known endings excluded (name ∷ left_of left) found left new_found
  leads_found name left found new_found step e more k = (name ∷ more, step _ more k, sym (append_assoc (names_of found) (name ∷ []) more) ∙ ap (λ l. l ++ more) (sym e))

  pub leads_inside : (name : List ℕ) (left found new_left new_found : List (String Global)) → known.has_entry name entry.Folder → ¬ (IsPassedOver name)
      → Opens known endings excluded name left found new_left new_found → Leads known endings excluded (name ∷ left_of left) found new_left new_found
  leads_inside name left found new_left new_found is p opens more k = let (inner, rest, kb, kr, e) = opens more k in (inner ++ rest, folder name is p kb kr, e)

  -- ---- the loop

  pub begins : (name : List ℕ) (left found new_left new_found : List (String Global)) → left ≡ [] → Opens known endings excluded name left found new_left new_found
      → Gathering known endings excluded name found new_left new_found
  begins name left found new_left new_found empty opens more k =
      let (inner, rest, kb, kr, e) = opens more k in
      let none_left : rest ≡ [] = nothing rest (subst (λ l. AreBelow known endings excluded (left_of l) rest) empty kr) in
      (inner, kb, ap (λ l. names_of found ++ l) (sym (append-nil inner) ∙ ap (λ l. inner ++ l) (sym none_left)) ∙ e)

  pub goes_on : (name : List ℕ) (first left rest found new_left new_found : List (String Global)) (one : String Global) (text : List ℕ) → left ≡ rest ++ one ∷ [] → text ≡ string_bytes one
      → Gathering known endings excluded name first left found → Leads known endings excluded (text ∷ left_of rest) found new_left new_found
      → Gathering known endings excluded name first new_left new_found
  goes_on name first left rest found new_left new_found one text is value before leads more k =
      let (all, ka, e) = leads more k in
      let same : text ∷ left_of rest ≡ left_of left = ap (λ t. t ∷ left_of rest) value ∙ sym (ap left_of is ∙ ap names_of (reverse-append rest (one ∷ []))) in
      let (inner, kb, e2) = before all (subst (λ l. AreBelow known endings excluded l all) same ka) in (inner, kb, e2 ∙ e)

  pub gathers : (name : List ℕ) (first left found : List (String Global)) → left ≡ [] → Gathering known endings excluded name first left found → Gathers known endings excluded name first found
  gathers name first left found empty before =
      let (inner, kb, e) = before [] (subst (λ l. AreBelow known endings excluded (left_of l) []) (sym empty) none) in (inner, kb, sym (e ∙ append-nil (names_of found)))

  -- ---- what is left alone

  pub leads_taken : (ignores : Ignores) (name : List ℕ) (left found new_found : List (String Global)) → Backs known excluded ignores → TakesFile ignores name found new_found
      → ((names more : List (List ℕ)) → AreBelow known endings excluded names more → AreBelow known endings excluded (name ∷ names) (name ∷ more))
      → Leads known endings excluded (name ∷ left_of left) found left new_found
  leads_taken ignores name left found new_found backed (inl e) step = leads_found name left found new_found step e
  leads_taken ignores name left found new_found backed (inr (ruled, same)) step =
      subst (λ f. Leads known endings excluded (name ∷ left_of left) found left f) (sym same) (leads_past name left found (λ names more k. left_alone name (backed ruled) k))

  pub leads_through : (ignores : Ignores) (name : List ℕ) (left found new_left new_found : List (String Global)) → Backs known excluded ignores → known.has_entry name entry.Folder → ¬ (IsPassedOver name)
      → TakesFolder known ignores name left found new_left new_found → Leads known endings excluded (name ∷ left_of left) found new_left new_found
  leads_through ignores name left found new_left new_found backed is p (inl opens) = leads_inside name left found new_left new_found is p (opens endings excluded)
  leads_through ignores name left found new_left new_found backed is p (inr (ruled, left_same, found_same)) =
      subst (λ l. Leads known endings excluded (name ∷ left_of left) found l new_found) (sym left_same)
      (subst (λ f. Leads known endings excluded (name ∷ left_of left) found left f) (sym found_same) (leads_past name left found (λ names more k. left_alone name (backed ruled) k)))
